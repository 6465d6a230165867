use Rattle.std.proofs.Common.{◌≡◌, take}
use Rattle.merge_core.specs.Inner.Tallies.{sums}
use Rattle.merge_core.proofs.tallies.each_tally.Given as goal

abbrev pub invariant-loop-place : goal.invariant-loop-place
invariant-loop-place l = record {
  same : l.both.items ≡ take l.place (sums l.left l.right);
}
