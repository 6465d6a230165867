use Rattle.std.proofs.Common.{◌-◌, ◌≤◌, IsTrue, length}
use Rattle.std.specs.Prelude.{slice_range}
use Rattle.std.specs.List.{list_all}
use Rattle.sgf_core.specs.Bytes.{is_white}
use Rattle.sgf_core.proofs.scan.white_end.Given as goal

abbrev pub invariant-loop-place : goal.invariant-loop-place
invariant-loop-place l = record {
  after : l.from ≤ l.place;
  within : l.place ≤ length l.bytes;
  passed : IsTrue (list_all is_white (slice_range l.bytes l.from l.place));
}

abbrev pub decreases-loop-place : goal.decreases-loop-place
decreases-loop-place l = length l.bytes - l.place
