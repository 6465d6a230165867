use Rattle.std.proofs.Common.{◌<◌, subst, sym}
use Rattle.job_core.specs.declared.knowledge.Knowledge.{Knowledge}
use Rattle.job_core.proofs.Rules.{forks}
use Rattle.job_core.proofs.queues.Endpoint.another.Goals as goal

pub another-pass-requires-clause-rule : goal.another-pass-requires-clause-rule
another-pass-requires-clause-rule c = forks _ _ c.self.invariant.named (subst (λ (v : Knowledge). 1 < v.parts) (sym c.self.view_is) c.requires)
