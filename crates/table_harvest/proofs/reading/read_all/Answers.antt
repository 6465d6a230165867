use Rattle.std.proofs.Common.{◌≡◌, ℕ, List, [], IfSome, IfNone, inl, inr, arith, refl, ap, sym, subst, ◌∙◌, ⊎_elim}
use Rattle.slot_table.specs.Passes.{Numbers, IsPassOf}
use Rattle.slot_table.proofs.Later.{later_self}
use Rattle.table_shares.specs.Checking.{Stand}
use Rattle.job_core.specs.Rising.{past}
use Rattle.job_core.specs.declared.items.Item.TheVariants.{Job}
use Rattle.game_core.specs.Reading.{IsNextGame, HasNoGame}
use Rattle.job_core.specs.Rule.{putting}
use Rattle.job_core.specs.Inner.Rule.{IsInStep}
use Rattle.job_core.proofs.Turns.{in_step_put, in_step_back}
use Rattle.table_harvest.specs.Inner.Reading.{AreDealt}
use Rattle.table_harvest.proofs.Stays.{has_put, offered_more, offered_calls, offered_table}
use Rattle.harvest_core.specs.Working.{IsWorked}
use Rattle.table_harvest.specs.Working.{IsRefused, IsCounted}
use Rattle.table_harvest.proofs.Dealt.{dealt_none, dealt_more, below_next}
use Rattle.table_harvest.proofs.CallsIn.{no_calls_in}
use Rattle.table_harvest.proofs.InTable.{begins_in_table}
use Rattle.table_harvest.proofs.reading.read_all.Goals as goal

pub loop-job-init : goal.loop-job-init
loop-job-init g c =
    let own = c.args.own.now in
    let worked = c.args.worked.now in
    let n = own.table.now.slots in
    let begun = c.requires.begun in
    let none = c.requires.none in
    record {
      same = refl;
      pass = c.requires.pass;
      bytes = refl;
      step = c.requires.step;
      above = (let e : past worked.share.games ≡ past [] = ap past begun.0 in omega (arith, e));
      dealt = dealt_none own.endpoint.put worked c.args.games.now.report.games none.0 none.1 begun.0;
      worker = refl;
      worked = c.requires.worked;
      refused = subst (IsRefused c.args.games.now.bytes own.kinds) (sym begun.2) tt;
      calls = no_calls_in n c.args.games.now.bytes own.kinds own.pass;
      in_table = ([], later_self n own.pass, begins_in_table n own.pass.seen worked begun.1 begun.2);
    }

pub loop-job-preserved : goal.loop-job-preserved
loop-job-preserved g c =
    let job = c.in-Some.job in
    let begun = c.args.own.now in
    let kinds = begun.kinds in
    let before = c.loop-job.games in
    let after = c.next_job.new.self in
    let old = c.loop-job.own in
    let new = c.offer.new.own in
    let h = c.loop-job.invariant in
    let offer = c.offer.ensures in
    let next : IsNextGame before after job = subst (λ o. IfSome o (IsNextGame before after)) c.in-Some.is c.in_ok-job.ensures.job in
    let same = c.next_job.ensures.bytes in
    let bytes : job.bytes ≡ c.args.games.now.bytes = next.bytes ∙ h.bytes in
    let table = ap (λ w. w.table.now) h.same in
    let worked = subst (λ (bs : List ℕ). IsWorked bs kinds c.loop-job.worked.share) (sym bytes) h.worked in
    record {
      same = offered_more begun old new h.same offer.same (has_put job old.endpoint new.endpoint (⊎_elim
          (λ (put : (new.endpoint ≡ putting old.endpoint (Job job)) × (c.offer.new.worked ≡ c.loop-job.worked)). inl put.0)
          (λ (back : (new.endpoint ≡ old.endpoint) × IsCounted job.game c.loop-job.worked c.offer.new.worked). inr back.0)
          offer.offered));
      pass = subst (λ (t : Numbers _). IsPassOf t new.pass) table offer.pass;
      bytes = same ∙ h.bytes;
      step = ⊎_elim
          (λ (put : (new.endpoint ≡ putting old.endpoint (Job job)) × (c.offer.new.worked ≡ c.loop-job.worked)). in_step_put before after old.endpoint new.endpoint job same h.step next put.0)
          (λ (back : (new.endpoint ≡ old.endpoint) × IsCounted job.game c.loop-job.worked c.offer.new.worked).
          in_step_back before after new.endpoint job same (subst (IsInStep before) (sym back.0) h.step) next)
          offer.offered;
      above = below_next job old.endpoint c.loop-job.worked new.endpoint c.offer.new.worked before.report.games after.report.games next.game next.counted offer.offered h.above;
      dealt = dealt_more job old.endpoint new.endpoint c.loop-job.worked c.offer.new.worked before.report.games after.report.games next.game next.counted offer.offered h.dealt;
      worker = offer.worker ∙ h.worker;
      worked = subst (λ (bs : List ℕ). IsWorked bs kinds c.offer.new.worked.share) bytes (offer.worked kinds worked (omega (arith, h.above, next.game)));
      refused = subst (λ (bs : List ℕ). IsRefused bs kinds c.offer.new.worked.refused) bytes
          (offer.refused kinds worked (subst (λ (t : Numbers _). Stand t.slots old.pass.seen c.loop-job.worked.share.rows) (sym table) h.in_table.2.stands)
          (subst (λ (bs : List ℕ). IsRefused bs kinds c.loop-job.worked.refused) (sym bytes) h.refused));
      calls = offered_calls c.args.games.now.bytes job.bytes kinds begun old new h.same bytes h.calls (offer.calls kinds h.worked.kinds_are);
      in_table = offered_table begun old new c.loop-job.worked c.offer.new.worked h.same h.in_table offer.table;
    }

pub returns-in-None-clause-dealt : goal.returns-in-None-clause-dealt
returns-in-None-clause-dealt g c =
    let before = c.loop-job.games in
    let after = c.next_job.new.self in
    let none : HasNoGame before after = subst (λ o. IfNone o (HasNoGame before after)) c.in-None.is c.in_ok-job.ensures.none in
    subst (λ high. AreDealt high c.loop-job.own.endpoint.put c.loop-job.worked) (sym none.games) c.loop-job.invariant.dealt

pub returns-then-wants_memory-clause-calls : goal.returns-then-wants_memory-clause-calls
returns-then-wants_memory-clause-calls g c =
    let job = c.in-Some.job in
    let before = c.loop-job.games in
    let h = c.loop-job.invariant in
    let next : IsNextGame before c.next_job.new.self job = subst (λ o. IfSome o (IsNextGame before c.next_job.new.self)) c.in-Some.is c.in_ok-job.ensures.job in
    offered_calls c.args.games.now.bytes job.bytes c.args.own.now.kinds c.args.own.now c.loop-job.own c.offer.new.own h.same (next.bytes ∙ h.bytes) h.calls
    (c.offer.ensures.calls c.args.own.now.kinds h.worked.kinds_are)

pub returns-then-wants_memory-clause-table : goal.returns-then-wants_memory-clause-table
returns-then-wants_memory-clause-table g c =
    offered_table c.args.own.now c.loop-job.own c.offer.new.own c.loop-job.worked c.offer.new.worked c.loop-job.invariant.same c.loop-job.invariant.in_table c.offer.ensures.table
