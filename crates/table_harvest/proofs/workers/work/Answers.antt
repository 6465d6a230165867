use Rattle.std.proofs.Common.{◌≡◌, ◌+◌, ℕ, List, [], ap, sym, subst, ◌∙◌}
use Rattle.std.specs.Prelude.{IsSome}
use Rattle.std.proofs.lemmas.Bool.{false≢true}
use Rattle.slot_table.proofs.Later.{later_self}
use Rattle.job_core.specs.declared.knowledge.Knowledge.{Knowledge}
use Rattle.job_core.specs.declared.items.Item.{Item}
use Rattle.job_core.specs.declared.items.Item.TheVariants.{Job, End}
use Rattle.job_core.specs.Rule.{drawing, Draws}
use Rattle.harvest_core.specs.Working.{IsWorked}
use Rattle.table_harvest.specs.Working.{IsRefused, HasDrawn}
use Rattle.table_harvest.proofs.Drawn.{IsCountedBy, drawn_none, drawn_above, drawn_more}
use Rattle.table_harvest.proofs.InTable.{begins_in_table, goes_on}
use Rattle.table_harvest.proofs.workers.work.Goals as goal
use Rattle.table_harvest.proofs.workers.work.Goals.{in-None, in-Some+in-Some-End}

pub loop-init : goal.loop-init
loop-init g c =
    let worker = c.args.worker in
    let n = worker.table.now.slots in
    let begun = c.begin-worked.ensures in
    record {
      pass = c.requires;
      number = begun.worker;
      worked = begun.worked worker.endpoint.bytes;
      refused = subst (IsRefused worker.endpoint.bytes worker.kinds) (sym begun.refused) tt;
      drawn = drawn_none n worker.kinds worker.pass worker.endpoint c.begin-worked.result begun.games begun.rows begun.refused;
      in_table = ([], later_self n worker.pass, begins_in_table n worker.pass.seen c.begin-worked.result begun.rows begun.refused);
    }

pub loop-preserved-in-Some-Job : goal.loop-preserved-in-Some-Job
loop-preserved-in-Some-Job g c =
    let worker = c.args.worker in
    let n = worker.table.now.slots in
    let kinds = worker.kinds in
    let job = c.in-Some-Job.job in
    let old = worker.endpoint in
    let h = c.loop.invariant in
    let drawn : (c.draw.new.self ≡ drawing c.loop.endpoint (Job job)) × Draws c.loop.endpoint (Job job) =
    subst (λ (y : Item). (c.draw.new.self ≡ drawing c.loop.endpoint y) × Draws c.loop.endpoint y) c.in-Some-Job.field-0-is c.in-Some-Job.ensures in
    let bytes : job.bytes ≡ old.bytes = drawn.1.0 ∙ ap (λ (v : Knowledge). v.bytes) {y = record old { drawn = c.loop.endpoint.drawn; ends_drawn = old.ends_drawn + 1 }} h.drawn.same in
    let worked = subst (λ (bs : List ℕ). IsWorked bs kinds c.loop.worked.share) (sym bytes) h.worked in
    let counted = c.count.ensures in
    let of = h.worked.kinds_are in
    record {
      pass = counted.pass;
      number = counted.worker ∙ h.number;
      worked = subst (λ (bs : List ℕ). IsWorked bs kinds c.count.new.self.share) bytes (counted.worked kinds worked
          (drawn_above n kinds worker.pass c.loop.pass c.count.new.pass old c.loop.worked c.count.new.self c.loop.endpoint job drawn.1 h.drawn));
      refused = subst (λ (bs : List ℕ). IsRefused bs kinds c.count.new.self.refused) bytes
          (counted.refused kinds worked h.in_table.2.stands (subst (λ (bs : List ℕ). IsRefused bs kinds c.loop.worked.refused) (sym bytes) h.refused));
      drawn = drawn_more n kinds worker.pass c.loop.pass c.count.new.pass old c.loop.worked c.count.new.self c.loop.endpoint job c.draw.new.self
          (subst (λ (bs : List ℕ). IsCountedBy n bs kinds job.game c.loop.pass c.count.new.pass c.loop.worked c.count.new.self) bytes (record {
            counted = counted.games;
            first = counted.first;
            later = counted.later kinds of;
            rows = counted.rows kinds of;
            refusal = counted.refusal;
          })) drawn.0 drawn.1 h.drawn;
      in_table = goes_on n worker.pass c.loop.pass c.count.new.pass c.loop.worked c.count.new.self h.in_table counted.table;
    }

pub returns : goal.returns
returns g c =
    let worker = c.args.worker in
    let h = c.loop.invariant in
    let P : Knowledge → Type 0 = HasDrawn worker.table.now.slots worker.kinds worker.pass c.loop.pass worker.endpoint c.loop.worked in
    record {
      pass_is = h.pass;
      number_is = h.number;
      worked_is = h.worked;
      refused_is = h.refused;
      drawn = elim c.match-next.branch [
        | in-None w ↦ absurd (false≢true (subst (λ o. IsSome o) w.in-None.is c.next.ensures.steps))
        | in-Some+in-Some-End w ↦
            let drawn : (w.draw.new.self ≡ drawing c.loop.endpoint End) × Draws c.loop.endpoint End =
            subst (λ (y : Item). (w.draw.new.self ≡ drawing c.loop.endpoint y) × Draws c.loop.endpoint y) w.in-Some-End.field-0-is w.in-Some-End.ensures in
            subst P (sym (w.endpoint-is ∙ drawn.0)) h.drawn
      ];
      in_table = h.in_table;
    }
