use Rattle.std.proofs.Common.{◌≡◌, false, subst, sym}
use Rattle.job_core.specs.declared.knowledge.Knowledge.{Knowledge}
use Rattle.job_core.proofs.Rules.{merges}
use Rattle.job_core.proofs.queues.Endpoint.take_up.Goals as goal

pub absorb-requires-clause-rule : goal.absorb-requires-clause-rule
absorb-requires-clause-rule c =
    merges _ _ _ _ c.self.invariant.named c.self.invariant.some (subst (λ (v : Knowledge). v.writes ≡ false) (sym c.theirs.view_is) c.requires.draws)
