use Rattle.std.proofs.Common.{◌≡◌, List, ℕ, ap, ◌∙◌, sym, length}
use Rattle.std.proofs.lemmas.List.{length-map}
use Rattle.probe_core.specs.declared.calls.Call.TheVariants as call
use Rattle.probe_core.specs.Machine.{Machine, place_in}
use Rattle.probe_core.specs.Showing.{key_in, table_of}
use Rattle.probe_core.proofs.Taking.{HasProbe, HasEnded, has_probe, has_ended, step_as, words_past, still_at}
use Rattle.probe_core.proofs.solo.SoloTable.look_up.Goals as goal

pub returns-in-Done-clause-step : goal.returns-in-Done-clause-step
returns-in-Done-clause-step g c =
    let items : List ℕ = c.self.inside.words.items
    in let now : List ℕ = c.deref.result.now
    in let i = c.loop-next.invariant
    in let m : Machine = c.loop-next.probe.machine
    in let has : HasProbe g.O.ProbeOrder.exponent g.O.ProbeOrder.place_of c.args.self.now.order now c.loop-next.probe =
    has_probe g.O.ProbeOrder.exponent g.O.ProbeOrder.place_of c.args.self.now.order items now c.loop-next.probe
    g.met.O.ProbeOrder.is_order c.deref.ensures.value i.same_order i.orderly i.on_way
    in let still : words_past g.O.ProbeOrder.place_of now c.loop-next.probe ≡ now =
    still_at now m.call m.index m.swaps (place_in (g.O.ProbeOrder.place_of c.loop-next.probe.order) m) c.args.key i.same_call i.on_way.swapping
    in let ended : HasEnded g.O.ProbeOrder.exponent g.O.ProbeOrder.place_of c.args.self.now.order now now m.call c.in-Done.answer =
    has_ended g.O.ProbeOrder.exponent g.O.ProbeOrder.place_of c.args.self.now.order now now c.loop-next.probe c.in-Done.answer
    has (sym still) c.in-Done.ensures.turn
    in let table : table_of now ≡ c.args.self.now.table = ap table_of c.deref.ensures.value ∙ i.same_table
    in step_as (table_of now) c.args.self.now.table m.call (call.LookUp c.args.key) c.in-Done.answer (table_of now) c.args.self.now.table
    table i.same_call table ended.step

pub returns-in-Done-clause-whole : goal.returns-in-Done-clause-whole
returns-in-Done-clause-whole g c =
    let i = c.loop-next.invariant
    in ap length (sym i.same_table) ∙ length-map c.self.inside.words.items key_in ∙ i.orderly.whole
