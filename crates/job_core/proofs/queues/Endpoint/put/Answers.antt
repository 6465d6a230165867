use Rattle.std.proofs.Common.{subst, sym}
use Rattle.job_core.specs.declared.knowledge.Knowledge.{Knowledge}
use Rattle.job_core.specs.Rule.{MayPut}
use Rattle.job_core.proofs.Rules.{puts, learns}
use Rattle.job_core.proofs.queues.Endpoint.put.Goals as goal

pub push_as-requires-clause-rule : goal.push_as-requires-clause-rule
push_as-requires-clause-rule g c =
    (puts _ _ _ _ c.self.invariant.named c.self.invariant.some (subst (λ (v : Knowledge). MayPut v c.args.item) (sym c.self.view_is) c.requires), learns _ _)
