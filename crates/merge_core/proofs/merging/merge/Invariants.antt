use Rattle.std.proofs.Common.{◌≡◌, ◌≤◌, ◌+◌, ◌-◌, ◌++◌, drop, length}
use Rattle.shape_dict.specs.Inner.Merging.{merged}
use Rattle.merge_core.proofs.merging.merge.Given as goal

abbrev pub invariant-loop-of_left : goal.invariant-loop-of_left
invariant-loop-of_left l = record {
  in_left : l.of_left ≤ length l.left;
  in_right : l.of_right ≤ length l.right;
  left : l.both.items ++ merged l.games (drop l.of_left l.left) (drop l.of_right l.right) ≡ merged l.games l.left l.right;
}

abbrev pub decreases-loop-of_left : goal.decreases-loop-of_left
decreases-loop-of_left l = (length l.left - l.of_left) + (length l.right - l.of_right)
