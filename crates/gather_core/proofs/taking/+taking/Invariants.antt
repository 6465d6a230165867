use Rattle.std.proofs.Common.{◌+◌, ◌*◌}
use Rattle.gather_core.proofs.taking.+taking.Given as goal

abbrev pub decreases-take_ranges : goal.decreases-take_ranges
decreases-take_ranges g l = 3 * l.depth

abbrev pub decreases-take_both : goal.decreases-take_both
decreases-take_both g l = 3 * l.depth + 2

abbrev pub decreases-take_both-join+arg2 : goal.decreases-take_both-join+arg2
decreases-take_both-join+arg2 g l = 3 * l.depth + 1

abbrev pub decreases-take_both-join+arg3 : goal.decreases-take_both-join+arg3
decreases-take_both-join+arg3 g l = 3 * l.depth + 1
