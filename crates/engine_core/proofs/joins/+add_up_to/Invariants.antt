use Rattle.std.proofs.Common.{◌-◌}
use Rattle.engine_core.proofs.joins.+add_up_to.Given as goal

abbrev pub decreases-add_up_to : goal.decreases-add_up_to
decreases-add_up_to l = l.end - l.before.length
