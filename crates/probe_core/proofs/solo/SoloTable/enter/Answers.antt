use Rattle.std.proofs.Common.{◌≡◌, ◌^◌, ◌++◌, List, ℕ, length, take, drop, ap, ◌∙◌, sym, subst}
use Rattle.std.proofs.lemmas.List.{length-map}
use Rattle.probe_core.specs.declared.calls.Call.TheVariants as call
use Rattle.probe_core.specs.Placing.{IsOrderly}
use Rattle.probe_core.specs.Showing.{key_in, table_of}
use Rattle.probe_core.specs.Way.{IsOnWay}
use Rattle.probe_core.proofs.Taking.{HasGoneOn, HasEnded, has_probe, gone_on, has_ended, step_as}
use Rattle.probe_core.proofs.Lending.{lent_whole}
use Rattle.probe_core.proofs.solo.SoloTable.enter.Goals as goal

pub loop-next-preserved : goal.loop-next-preserved
loop-next-preserved g c =
    let items : List ℕ = c.loop-next.self-inside.words.items
    in let new : List ℕ = c.advance.new.words
    in let i = c.loop-next.invariant
    in let back : take c.loop-next.self-inside.words.len (new ++ drop (length new) items) ≡ new =
    lent_whole items new c.loop-next.self-inside.words.len (c.advance.auto.words ∙ ap length c.deref_mut.ensures.value)
    (sym c.deref_mut.ensures.len ∙ ap length c.deref_mut.ensures.value)
    in let on : HasGoneOn g.O.ProbeOrder.exponent g.O.ProbeOrder.place_of c.args.self.now.order c.deref_mut.result.now new c.loop-next.probe c.in-On.next =
    gone_on g.O.ProbeOrder.exponent g.O.ProbeOrder.place_of c.args.self.now.order c.deref_mut.result.now new c.loop-next.probe c.in-On.next
    (has_probe g.O.ProbeOrder.exponent g.O.ProbeOrder.place_of c.args.self.now.order items c.deref_mut.result.now c.loop-next.probe
    g.met.O.ProbeOrder.is_order c.deref_mut.ensures.value i.same_order i.orderly i.on_way)
    c.in-On.ensures.words c.in-On.ensures.turn
    in let same : take c.loop-next.self-inside.words.len (new ++ drop (length new) items) ≡ c.deref_mut.result.now = back ∙ on.still
    in let kept : take c.loop-next.self-inside.words.len (new ++ drop (length new) items) ≡ items = same ∙ c.deref_mut.ensures.value
    in let P : List ℕ → Type 0 = λ words. IsOrderly (2 ^ g.O.ProbeOrder.exponent c.args.self.now.order) (g.O.ProbeOrder.place_of c.args.self.now.order) words
    in let Q : List ℕ → Type 0 = λ words. IsOnWay (2 ^ g.O.ProbeOrder.exponent c.args.self.now.order) (g.O.ProbeOrder.place_of c.args.self.now.order) words c.in-On.next.machine
    in record {
      same_order = on.same_order;
      kept_order = i.kept_order;
      same_call = on.same_call ∙ i.same_call;
      same_table = ap table_of kept ∙ i.same_table;
      orderly = subst P (sym kept) i.orderly;
      on_way = subst Q (sym same) on.way;
    }

pub invariant_of-self : goal.invariant_of-self
invariant_of-self g c =
    let items : List ℕ = c.loop-next.self-inside.words.items
    in let new : List ℕ = c.advance.new.words
    in let i = c.loop-next.invariant
    in let back : take c.loop-next.self-inside.words.len (new ++ drop (length new) items) ≡ new =
    lent_whole items new c.loop-next.self-inside.words.len (c.advance.auto.words ∙ ap length c.deref_mut.ensures.value)
    (sym c.deref_mut.ensures.len ∙ ap length c.deref_mut.ensures.value)
    in let P : List ℕ → Type 0 = λ words. IsOrderly (2 ^ g.O.ProbeOrder.exponent c.args.self.now.order) (g.O.ProbeOrder.place_of c.args.self.now.order) words
    in let Q = λ (o : g.row.O.Denot). IsOrderly (2 ^ g.O.ProbeOrder.exponent o) (g.O.ProbeOrder.place_of o)
    (take c.loop-next.self-inside.words.len (new ++ drop (length new) items))
    in let ended : HasEnded g.O.ProbeOrder.exponent g.O.ProbeOrder.place_of c.args.self.now.order c.deref_mut.result.now new c.loop-next.probe.machine.call c.in-Done.answer =
    has_ended g.O.ProbeOrder.exponent g.O.ProbeOrder.place_of c.args.self.now.order c.deref_mut.result.now new c.loop-next.probe c.in-Done.answer
    (has_probe g.O.ProbeOrder.exponent g.O.ProbeOrder.place_of c.args.self.now.order items c.deref_mut.result.now c.loop-next.probe
    g.met.O.ProbeOrder.is_order c.deref_mut.ensures.value i.same_order i.orderly i.on_way)
    c.in-Done.ensures.words c.in-Done.ensures.turn
    in subst Q (sym i.kept_order) (subst P (sym back) ended.orderly)

pub returns-in-Done-clause-step : goal.returns-in-Done-clause-step
returns-in-Done-clause-step g c =
    let items : List ℕ = c.loop-next.self-inside.words.items
    in let new : List ℕ = c.advance.new.words
    in let i = c.loop-next.invariant
    in let back : take c.loop-next.self-inside.words.len (new ++ drop (length new) items) ≡ new =
    lent_whole items new c.loop-next.self-inside.words.len (c.advance.auto.words ∙ ap length c.deref_mut.ensures.value)
    (sym c.deref_mut.ensures.len ∙ ap length c.deref_mut.ensures.value)
    in let ended : HasEnded g.O.ProbeOrder.exponent g.O.ProbeOrder.place_of c.args.self.now.order c.deref_mut.result.now new c.loop-next.probe.machine.call c.in-Done.answer =
    has_ended g.O.ProbeOrder.exponent g.O.ProbeOrder.place_of c.args.self.now.order c.deref_mut.result.now new c.loop-next.probe c.in-Done.answer
    (has_probe g.O.ProbeOrder.exponent g.O.ProbeOrder.place_of c.args.self.now.order items c.deref_mut.result.now c.loop-next.probe
    g.met.O.ProbeOrder.is_order c.deref_mut.ensures.value i.same_order i.orderly i.on_way)
    c.in-Done.ensures.words c.in-Done.ensures.turn
    in step_as (table_of c.deref_mut.result.now) c.args.self.now.table c.loop-next.probe.machine.call (call.Enter c.args.key) c.in-Done.answer
    (table_of new) (table_of (take c.loop-next.self-inside.words.len (new ++ drop (length new) items)))
    (ap table_of c.deref_mut.ensures.value ∙ i.same_table) i.same_call (ap table_of (sym back)) ended.step

pub returns-in-Done-clause-whole : goal.returns-in-Done-clause-whole
returns-in-Done-clause-whole g c =
    let items : List ℕ = c.loop-next.self-inside.words.items
    in let new : List ℕ = c.advance.new.words
    in let i = c.loop-next.invariant
    in let long : length new ≡ length items = c.advance.auto.words ∙ ap length c.deref_mut.ensures.value
    in let back : take c.loop-next.self-inside.words.len (new ++ drop (length new) items) ≡ new =
    lent_whole items new c.loop-next.self-inside.words.len long (sym c.deref_mut.ensures.len ∙ ap length c.deref_mut.ensures.value)
    in length-map (take c.loop-next.self-inside.words.len (new ++ drop (length new) items)) key_in
    ∙ ap length back ∙ long ∙ i.orderly.whole ∙ ap (λ o. 2 ^ g.O.ProbeOrder.exponent o) (sym i.kept_order)
