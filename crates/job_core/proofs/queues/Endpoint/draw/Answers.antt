use Rattle.job_core.proofs.Rules.{takes, learns}
use Rattle.job_core.proofs.queues.Endpoint.draw.Goals as goal

pub pop_as-requires-clause-rule : goal.pop_as-requires-clause-rule
pop_as-requires-clause-rule g c = (takes _ _ c.self.invariant.named c.self.invariant.some, learns _ _)
