use Rattle.job_core.proofs.Rules.{names}
use Rattle.job_core.proofs.queues.name.Goals as goal

pub another-requires-clause-rule : goal.another-requires-clause-rule
another-requires-clause-rule g c = names _ _ _ _ c.requires.pass.1
