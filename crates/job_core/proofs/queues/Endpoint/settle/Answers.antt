use Rattle.std.proofs.Common.{◌≡◌, subst, sym}
use Rattle.job_core.specs.declared.knowledge.Knowledge.{Knowledge}
use Rattle.job_core.specs.Rule.{all_parts}
use Rattle.job_core.specs.Inner.Rule.{IsSettled}
use Rattle.job_core.proofs.Rules.{settled}
use Rattle.job_core.proofs.Accounts.{draws_none}
use Rattle.job_core.proofs.queues.Endpoint.settle.Goals as goal

pub learn_as-requires-clause-rule : goal.learn_as-requires-clause-rule
learn_as-requires-clause-rule c = settled _ _ c.self.invariant.named (subst (λ (v : Knowledge). v.parts ≡ all_parts) (sym c.self.view_is) c.requires)

pub returns-clause-all : goal.returns-clause-all
returns-clause-all c = (subst IsSettled c.self.view_is c.learn_as.ensures.rule.1).all

pub returns-clause-no_more : goal.returns-clause-no_more
returns-clause-no_more c = (subst IsSettled c.self.view_is c.learn_as.ensures.rule.1).no_more

pub returns-clause-none : goal.returns-clause-none
returns-clause-none c = draws_none _ (subst IsSettled c.self.view_is c.learn_as.ensures.rule.1)
