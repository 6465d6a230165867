use Rattle.merge_core.proofs.ranges.+join_range.Given as goal

abbrev pub decreases-join_range : goal.decreases-join_range
decreases-join_range g l = l.count
