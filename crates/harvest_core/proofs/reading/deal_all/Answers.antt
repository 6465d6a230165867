use Rattle.std.proofs.Common.{◌≡◌, IfSome, sym, subst, ◌∙◌, ⊎_elim}
use Rattle.game_core.specs.Reading.{IsNextGame}
use Rattle.job_core.specs.declared.items.Item.TheVariants.{Job}
use Rattle.job_core.specs.Rule.{putting}
use Rattle.job_core.specs.Inner.Rule.{IsInStep}
use Rattle.job_core.proofs.Turns.{in_step_put, in_step_back}
use Rattle.harvest_core.proofs.Dealt.{dealt_more, endpoint_of_offered, put_more}
use Rattle.harvest_core.proofs.reading.deal_all.Goals as goal

pub loop-job-preserved : goal.loop-job-preserved
loop-job-preserved g c =
    let job = c.in-Some.job in
    let before = c.loop-job.games in
    let after = c.next_job.new.self in
    let old = c.loop-job.own in
    let new = c.offer.new.own in
    let h = c.loop-job.invariant in
    let next : IsNextGame before after job = subst (λ o. IfSome o (IsNextGame before after)) c.in-Some.is c.in_ok-job.ensures.job in
    let same = c.next_job.ensures.bytes in
    let endpoint = endpoint_of_offered c.args.shared.now job old new c.offer.ensures in
    record {
      bytes = same ∙ h.bytes;
      endpoint = put_more job c.args.own.now.endpoint old.endpoint new.endpoint h.endpoint endpoint;
      step = ⊎_elim
          (λ (put : new.endpoint ≡ putting old.endpoint (Job job)). in_step_put before after old.endpoint new.endpoint job same h.step next put)
          (λ (back : new.endpoint ≡ old.endpoint). in_step_back before after new.endpoint job same (subst (IsInStep before) (sym back) h.step) next)
          endpoint;
      dealt = dealt_more c.args.shared.now job old new before.report.games after.report.games next.game next.counted c.offer.ensures h.dealt;
    }
