use Rattle.std.proofs.Common.{◌≡◌, ◌^◌, ℕ, ap, sym, subst, arith}
use Rattle.probe_core.specs.World.{World, new_world}
use Rattle.probe_core.specs.Inner.Hall.{world_of}
use Rattle.probe_core.specs.Lawful.{IsLawful}
use Rattle.probe_core.specs.Inner.Lawful.{IsSound}
use Rattle.probe_core.proofs.Soundness.{sound_new, sound_is_lawful}
use Rattle.probe_core.proofs.worlds.World.new.Goals as goal

pub invariant_of-result : goal.invariant_of-result
invariant_of-result g c =
    let n : ℕ = 2 ^ g.O.ProbeOrder.exponent c.args.order
    in let P : World → Type 0 = λ w. IsSound n (g.O.ProbeOrder.place_of c.args.order) w
    in let Q = λ (o : g.row.O.Denot). IsSound (2 ^ g.O.ProbeOrder.exponent o) (g.O.ProbeOrder.place_of o) (world_of c.in_ok-hall.hall)
    in let none : c.in_ok-hall.hall.events ≡ 0 = ap (λ w. w.events) c.in_ok-hall.ensures.world
    in record {
      fitted = c.in_ok-hall.ensures.fitted;
      sound = subst Q (sym c.in_ok-hall.ensures.order)
          (subst P (sym c.in_ok-hall.ensures.world) (sound_new n (g.O.ProbeOrder.place_of c.args.order) c.args.callers));
      few = omega (arith, none);
    }

pub returns-clause-lawful : goal.returns-clause-lawful
returns-clause-lawful g c =
    let n : ℕ = 2 ^ g.O.ProbeOrder.exponent c.args.order
    in let place : ℕ → ℕ → ℕ = g.O.ProbeOrder.place_of c.args.order
    in let P : World → Type 0 = λ w. IsLawful n w
    in subst P (sym c.in_ok-hall.ensures.world) (sound_is_lawful n place (new_world n c.args.callers) (sound_new n place c.args.callers))
