use Rattle.std.proofs.Common.{◌≡◌, ◌^◌, ℕ, List, length, map, replicate, Option, ap, ◌∙◌}
use Rattle.std.proofs.lemmas.List.{length-replicate}
use Rattle.probe_core.specs.declared.events.Finished.{Finished}
use Rattle.probe_core.specs.World.{Running, new_world}
use Rattle.probe_core.specs.Inner.Hall.{running_of}
use Rattle.probe_core.proofs.Beginning.{idle_callers_show_none, idle_callers_are_ordered}
use Rattle.probe_core.proofs.halls.Hall.new.Goals as goal

pub returns-clause-world : goal.returns-clause-world
returns-clause-world g c =
    let slots : c.slots-slots.result ≡ 2 ^ g.O.ProbeOrder.exponent c.args.order = c.slots-slots.ensures.value ∙ ap (λ k. 2 ^ k) c.capacity.ensures
    in let words : c.in_ok-words.words.items ≡ replicate (2 ^ g.O.ProbeOrder.exponent c.args.order) 0 =
    c.in_ok-words.ensures.items_if_clones_equal (λ y e. e) ∙ ap (λ n. replicate n 0) slots
    in ap (λ (l : List ℕ). record { words = l; callers = map running_of c.in_ok-callers.callers.items; finished = c.new.result.items; events = 0 }) words
    ∙ ap (λ (l : List (Option Running)). record { words = replicate (2 ^ g.O.ProbeOrder.exponent c.args.order) 0; callers = l; finished = c.new.result.items; events = 0 })
    (idle_callers_show_none c.args.callers c.in_ok-callers.callers.items c.in_ok-callers.ensures)
    ∙ ap (λ (l : List Finished). record (new_world (2 ^ g.O.ProbeOrder.exponent c.args.order) c.args.callers) { finished = l }) c.new.ensures.items

pub returns-clause-fitted : goal.returns-clause-fitted
returns-clause-fitted g c =
    let slots : c.slots-slots.result ≡ 2 ^ g.O.ProbeOrder.exponent c.args.order = c.slots-slots.ensures.value ∙ ap (λ k. 2 ^ k) c.capacity.ensures
    in let words : c.in_ok-words.words.items ≡ replicate c.slots-slots.result 0 = c.in_ok-words.ensures.items_if_clones_equal (λ y e. e)
    in record {
      whole = ap length words ∙ length-replicate c.slots-slots.result 0 ∙ slots;
      ordered = idle_callers_are_ordered c.args.order c.args.callers c.in_ok-callers.callers.items c.in_ok-callers.ensures;
    }
