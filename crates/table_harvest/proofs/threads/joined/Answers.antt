use Rattle.std.proofs.Common.{◌≡◌, List, [], true, Some, None, refl, ap, sym, subst, ◌∙◌}
use Rattle.std.specs.Option.{is_some}
use Rattle.std.proofs.lemmas.Bool.{false≢true}
use Rattle.slot_table.specs.Passes.{Numbers, IsPassOf}
use Rattle.job_core.specs.declared.knowledge.Knowledge.{Knowledge}
use Rattle.harvest_faults.specs.declared.faults.HarvestFault.TheVariants as fault
use Rattle.table_harvest.specs.declared.working.Worked.{Worked}
use Rattle.table_harvest.specs.Inner.Threads.{HasTaken}
use Rattle.table_harvest.proofs.Taken.{taken_none, ends_drawn, results_are}
use Rattle.table_harvest.proofs.threads.joined.Goals as goal
use Rattle.table_harvest.proofs.threads.joined.Goals.{then-is_none, else-is_none}

pub take_up-requires-after_bounds : goal.take_up-requires-after_bounds
take_up-requires-after_bounds g c κs within =
    let reading = c.args.reading in
    let own = reading.own in
    let all = c.in_ok-all.all.items in
    let j = c.requires.reading in
    let is : IsPassOf own.table.now own.pass =
    subst (λ (t : Numbers _). IsPassOf t own.pass) (sym (ap (λ w. w.table.now) j.reading_is.own_is)) j.reading_is.pass in
    let none : own.endpoint.taken ≡ [] = ap (λ w. w.endpoint.taken) j.reading_is.own_is ∙ ap (λ (v : Knowledge). v.taken) j.endpoint in
    subst (λ (ws : List Worked). HasTaken own all all own ws) (sym c.new-worked.ensures.items) (taken_none own all is none c.in_ok-all.ensures.back)

pub returns-clause-results : goal.returns-clause-results
returns-clause-results g c =
    let reading = c.args.reading in
    let j = c.requires.reading in
    let all = c.in_ok-all.all.items in
    let own = c.take_up.new.own in
    let worked = c.take_up.new.worked.items in
    let h : HasTaken reading.own all [] own worked = c.in_ok-take_up.ensures in
    elim c.if-is_none.branch [
      | then-is_none w ↦ results_are c.args.begun.value.stake _ _ reading all own worked j h _ c.in_ok-all.ensures.stakes c.in_ok-push.ensures.items (ap (λ x. x.pass) w.own-is) refl refl
          (λ fine game. w.settle.ensures.all (ends_drawn c.args.begun.value.stake _ _ reading all own worked j h c.in_ok-all.ensures.each
          (λ is. (let clash : Some fault.Memory ≡ None = sym is ∙ fine in absurd cc))) game)
      | else-is_none w ↦ results_are c.args.begun.value.stake _ _ reading all own worked j h _ c.in_ok-all.ensures.stakes c.in_ok-push.ensures.items (ap (λ x. x.pass) w.own-is) refl refl
          (λ fine game. absurd (false≢true (subst (λ o. is_some o ≡ true) fine w.if-is_none.ensures)))
    ]
