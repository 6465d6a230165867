use Rattle.std.proofs.Common.{◌≡◌, ◌^◌, ◌<◌, ℕ, List, length, map, Option, Some, None, slice_get, slice_set, refl, ap, ◌∙◌, sym, arith}
use Rattle.std.proofs.lemmas.List.{map-set, set-get_or}
use Rattle.std.proofs.lemmas.Option.{slice_get_read}
use Rattle.probe_core.specs.declared.halls.UnderWay.{UnderWay}
use Rattle.probe_core.specs.World.{World, Running, stepped}
use Rattle.probe_core.specs.Inner.Hall.{world_of, call_of, running_of}
use Rattle.probe_core.proofs.Callers.{shown_at, stepped_taken}
use Rattle.probe_core.proofs.halls.Hall.step.Goals as goal

pub returns-in-Some-clause-world : goal.returns-in-Some-clause-world
returns-in-Some-clause-world g c =
    let self = c.args.self.now
    in let n : ℕ = 2 ^ g.O.ProbeOrder.exponent self.order
    in let place : ℕ → ℕ → ℕ = g.O.ProbeOrder.place_of self.order
    in let items : List (Option (UnderWay g.row.O.Denot)) = self.callers.items
    in let world : World = world_of self
    in let here : c.args.caller < length items = omega (arith, self.callers.ok.0, c.len.ensures, c.if-caller-len.false)
    in let there : slice_get items c.args.caller ≡ Some (Some c.in-Some.call) =
    slice_get_read items (length items) c.args.caller c.index_mut.result.now refl here c.index_mut.ensures.value
    ∙ ap Some (sym c.in-Some.ensures.value)
    in let put : map running_of (slice_set items c.args.caller c.take.new.self) ≡ slice_set world.callers c.args.caller None =
    map-set running_of items c.args.caller c.take.new.self ∙ ap (λ o. slice_set world.callers c.args.caller (running_of o)) c.in-Some.ensures.after
    in c.go_on.ensures.world
    ∙ ap (λ (l : List (Option Running)). stepped n place (record world { callers = l }) c.args.caller (Some (Some (call_of c.in-Some.call)))) put
    ∙ stepped_taken n place world c.args.caller (call_of c.in-Some.call)
    ∙ ap (λ o. stepped n place world c.args.caller o) (sym (shown_at items c.args.caller (Some c.in-Some.call) there))

pub returns-in_default-clause-world : goal.returns-in_default-clause-world
returns-in_default-clause-world g c =
    let self = c.args.self.now
    in let n : ℕ = 2 ^ g.O.ProbeOrder.exponent self.order
    in let place : ℕ → ℕ → ℕ = g.O.ProbeOrder.place_of self.order
    in let items : List (Option (UnderWay g.row.O.Denot)) = self.callers.items
    in let world : World = world_of self
    in let here : c.args.caller < length items = omega (arith, self.callers.ok.0, c.len.ensures, c.if-caller-len.false)
    in let none : c.take.new.self ≡ c.index_mut.result.now = c.in_default.ensures.after ∙ c.in_default.ensures.value
    in let there : slice_get items c.args.caller ≡ Some None =
    slice_get_read items (length items) c.args.caller c.index_mut.result.now refl here c.index_mut.ensures.value
    ∙ ap Some (sym c.in_default.ensures.value)
    in let same : slice_set items c.args.caller c.take.new.self ≡ items =
    ap (λ o. slice_set items c.args.caller o) (none ∙ c.index_mut.ensures.value) ∙ set-get_or items c.args.caller c.index_mut.result.now
    in ap (λ (l : List (Option (UnderWay g.row.O.Denot))). record world { callers = map running_of l }) same
    ∙ ap (λ o. stepped n place world c.args.caller o) (sym (shown_at items c.args.caller None there))
