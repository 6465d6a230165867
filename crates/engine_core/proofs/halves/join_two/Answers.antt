use Rattle.engine_core.proofs.Batched.{both_batch}
use Rattle.engine_core.proofs.halves.join_two.Goals as goal

pub returns-in-Ok-clause-both : goal.returns-in-Ok-clause-both
returns-in-Ok-clause-both c bytes h = both_batch bytes c.args.first.now c.args.next.now c.in-Ok.sum h c.in-Ok.ensures.kinds c.in-Ok.ensures.fits c.in-Ok.ensures.ok
