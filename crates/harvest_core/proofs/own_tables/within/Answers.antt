use Rattle.std.proofs.Common.{ℕ, ◌<◌, subst}
use Rattle.harvest_core.proofs.own_tables.within.Goals as goal

pub first_too_many-requires-clause-many : goal.first_too_many-requires-clause-many
first_too_many-requires-clause-many c = subst (λ (n : ℕ). c.args.most < n) c.len.ensures c.if-len-most.true
