use Rattle.std.proofs.Common.{◌≡◌, ◌^◌, ℕ, List, take, ap, ◌∙◌, sym, subst, arith, rules}
use Rattle.probe_core.specs.declared.events.Finished.{Finished}
use Rattle.probe_core.specs.Placed.{Placed}
use Rattle.probe_core.specs.World.{happened, counted}
use Rattle.probe_core.specs.Inner.Hall.{world_of}
use Rattle.probe_core.specs.Lawful.{IsLawful}
use Rattle.probe_core.specs.Inner.Lawful.{IsSound}
use Rattle.probe_core.proofs.Folding.{after_taken, steps_left}
use Rattle.probe_core.proofs.Soundness.{sound_is_lawful}
use Rattle.probe_core.proofs.Running.{sound_now, sound_ran, grows_ran}
use Rattle.probe_core.proofs.worlds.World.run.Goals as goal

pub loop-event-preserved : goal.loop-event-preserved
loop-event-preserved g c =
    let i = c.loop-event.invariant
    in let hall = c.loop-event.self-inside.hall
    in let event = c.event-item.result
    in let step : world_of c.happen.new.self ≡
    counted (happened (2 ^ g.O.ProbeOrder.exponent c.args.self.now.order) (g.O.ProbeOrder.place_of c.args.self.now.order) (world_of hall) event) =
    c.happen.ensures.world
    ∙ ap (λ o. counted (happened (2 ^ g.O.ProbeOrder.exponent o) (g.O.ProbeOrder.place_of o) (world_of hall) event)) i.same_order
    in record {
      same_order = c.happen.ensures.order ∙ i.same_order;
      fitted = c.happen.ensures.fitted;
      ran = after_taken (2 ^ g.O.ProbeOrder.exponent c.args.self.now.order) (g.O.ProbeOrder.place_of c.args.self.now.order) c.args.self.now.world
          (world_of hall) (world_of c.happen.new.self) c.args.events.now c.loop-event.event-index event c.loop-event-test.true c.event-item.is i.ran step;
      room = omega (
        arith,
        i.room,
        c.happen.ensures.capacity,
        c.happen.ensures.grown,
        steps_left c.args.events.now c.loop-event.event-index event c.loop-event-test.true c.event-item.is,
      );
      counted = omega (arith, c.happen.ensures.events, i.counted);
      few = i.few;
    }

pub returns-then-events-self-clause-lawful : goal.returns-then-events-self-clause-lawful
returns-then-events-self-clause-lawful g c =
    let hall = c.self.inside.hall
    in let P = λ (v : Placed g.row.O.Denot). IsLawful (2 ^ g.O.ProbeOrder.exponent v.order) v.world
    in subst P c.self.view_is
    (sound_is_lawful (2 ^ g.O.ProbeOrder.exponent hall.order) (g.O.ProbeOrder.place_of hall.order) (world_of hall) c.self.invariant.sound)

pub returns-in_err-reserve-clause-lawful : goal.returns-in_err-reserve-clause-lawful
returns-in_err-reserve-clause-lawful g c =
    let hall = c.self.inside.hall
    in let n : ℕ = 2 ^ g.O.ProbeOrder.exponent hall.order
    in let P : List Finished → Type 0 = λ l. IsLawful n (record (world_of hall) { finished = l })
    in subst P (sym c.reserve.ensures.items) (sound_is_lawful n (g.O.ProbeOrder.place_of hall.order) (world_of hall) c.self.invariant.sound)

pub loop-event-init : goal.loop-event-init
loop-event-init g c =
    let hall = c.self.inside.hall
    in let same : hall.events ≡ c.args.self.now.world.events = ap (λ (v : Placed g.row.O.Denot). v.world.events) c.self.view_is
    in record {
      same_order = ap (λ (v : Placed g.row.O.Denot). v.order) c.self.view_is;
      fitted = record { whole = c.self.invariant.fitted.whole; ordered = c.self.invariant.fitted.ordered };
      ran = ap (λ (l : List Finished). record (world_of hall) { finished = l }) c.reserve.ensures.items ∙ ap (λ (v : Placed g.row.O.Denot). v.world) c.self.view_is;
      room = search rules;
      counted = omega (arith, same);
      few = omega (arith, same, c.self.invariant.few, c.if-events-self.false);
    }

pub invariant_of-self-in-loop-event : goal.invariant_of-self-in-loop-event
invariant_of-self-in-loop-event g c =
    let i = c.loop-event.invariant
    in let start : IsSound (2 ^ g.O.ProbeOrder.exponent c.args.self.now.order) (g.O.ProbeOrder.place_of c.args.self.now.order) c.args.self.now.world =
    sound_now g.O.ProbeOrder.exponent g.O.ProbeOrder.place_of c.self.inside.hall c.args.self.now c.self.view_is c.self.invariant.sound
    in record {
      fitted = i.fitted;
      sound = sound_ran g.O.ProbeOrder.exponent g.O.ProbeOrder.place_of c.args.self.now c.loop-event.self-inside.hall
          (take c.loop-event.event-index c.args.events.now) g.met.O.ProbeOrder.is_order start i.same_order i.ran;
      few = omega (arith, i.counted, i.few, c.loop-event.auto.event-index-end);
    }

pub returns-clause-grows : goal.returns-clause-grows
returns-clause-grows g c =
    let i = c.loop-event.invariant
    in let start : IsSound (2 ^ g.O.ProbeOrder.exponent c.args.self.now.order) (g.O.ProbeOrder.place_of c.args.self.now.order) c.args.self.now.world =
    sound_now g.O.ProbeOrder.exponent g.O.ProbeOrder.place_of c.self.inside.hall c.args.self.now c.self.view_is c.self.invariant.sound
    in grows_ran (2 ^ g.O.ProbeOrder.exponent c.args.self.now.order) (g.O.ProbeOrder.place_of c.args.self.now.order) c.args.self.now.world
    c.loop-event.self-inside.hall c.args.events.now c.loop-event.event-index start c.loop-event-test.false i.ran

pub returns-clause-lawful : goal.returns-clause-lawful
returns-clause-lawful g c =
    let hall = c.loop-event.self-inside.hall
    in let i = c.loop-event.invariant
    in let start : IsSound (2 ^ g.O.ProbeOrder.exponent c.args.self.now.order) (g.O.ProbeOrder.place_of c.args.self.now.order) c.args.self.now.world =
    sound_now g.O.ProbeOrder.exponent g.O.ProbeOrder.place_of c.self.inside.hall c.args.self.now c.self.view_is c.self.invariant.sound
    in sound_is_lawful (2 ^ g.O.ProbeOrder.exponent hall.order) (g.O.ProbeOrder.place_of hall.order) (world_of hall)
    (sound_ran g.O.ProbeOrder.exponent g.O.ProbeOrder.place_of c.args.self.now hall
    (take c.loop-event.event-index c.args.events.now) g.met.O.ProbeOrder.is_order start i.same_order i.ran)
