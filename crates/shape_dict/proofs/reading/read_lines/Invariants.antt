use Rattle.std.proofs.Common.{◌≡◌, ◌++◌, length}
use Rattle.shape_dict.specs.Text.{header_text}
use Rattle.shape_dict.specs.Reading.{BeginsWith}
use Rattle.shape_dict.proofs.reading.read_lines.Given as goal

abbrev pub invariant-loop-place : goal.invariant-loop-place
invariant-loop-place l = record {
  place : length l.entries.items ≡ l._place;
  begins : BeginsWith (header_text l.header ++ l.fn.bytes) l.header l.entries.items l.left;
}
