use Rattle.std.proofs.Common.{◌-◌, ◌≤◌, length}
use Rattle.sgf_core.proofs.Begins.{NoneBefore}
use Rattle.sgf_core.proofs.reader.next_tree_start.Given as goal

abbrev pub invariant-loop-offset : goal.invariant-loop-offset
invariant-loop-offset l = record {
  after : l.from ≤ l.place;
  within : l.place ≤ length l.bytes;
  none : NoneBefore l.bytes l.from l.place;
}

abbrev pub decreases-loop-offset : goal.decreases-loop-offset
decreases-loop-offset l = length l.bytes - l.place
