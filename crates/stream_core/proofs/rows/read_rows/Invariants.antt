use Rattle.std.proofs.Common.{◌≡◌, ◌++◌, length}
use Rattle.std.specs.List.{flat_map}
use Rattle.shape_dict.specs.Text.{line_text}
use Rattle.stream_core.specs.Rows.{AreRows}
use Rattle.stream_core.proofs.rows.read_rows.Given as goal

abbrev pub invariant-loop-left : goal.invariant-loop-left
invariant-loop-left l = record {
  rows : AreRows l.header l.low l.least l.entries.items;
  same : l.bytes ≡ flat_map (line_text l.header.text) l.entries.items ++ l.left;
}

abbrev pub decreases-loop-left : goal.decreases-loop-left
decreases-loop-left l = length l.left
