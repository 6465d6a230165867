-- What a run of events leaves of a world's hall.
use Rattle.std.proofs.Common.{◌≡◌, ◌^◌, ◌≤◌, ℕ, List, length, take, ap, ◌∙◌, sym, subst}
use Rattle.std.proofs.lemmas.List.{take_all}
use Rattle.std.proofs.lemmas.Nat.{pow_pos}
use Rattle.probe_core.specs.declared.events.Event.{Event}
use Rattle.probe_core.specs.declared.events.Finished.{Finished}
use Rattle.probe_core.specs.declared.halls.Hall.{Hall}
use Rattle.probe_core.specs.Order.{IsOrder}
use Rattle.probe_core.specs.Placed.{Placed}
use Rattle.probe_core.specs.World.{World, after_events}
use Rattle.probe_core.specs.Inner.Hall.{world_of}
use Rattle.probe_core.specs.Lawful.{GrowsAmong}
use Rattle.probe_core.specs.Inner.Lawful.{IsSound}
use Rattle.probe_core.proofs.Soundness.{sound_after}
use Rattle.probe_core.proofs.Tracking.{grows_after}

-- a world that a held hall shows is sound
pub sound_now : {O : Type 0} (exponent : O → ℕ) (place_of : O → ℕ → ℕ → ℕ) (hall : Hall O) (now : Placed O)
    → record { order = hall.order; world = world_of hall } ≡ now → IsSound (2 ^ exponent hall.order) (place_of hall.order) (world_of hall)
    → IsSound (2 ^ exponent now.order) (place_of now.order) now.world
sound_now {O} exponent place_of hall now view_is sound =
    let P : Placed O → Type 0 = λ v. IsSound (2 ^ exponent v.order) (place_of v.order) v.world
    in subst P view_is sound

-- a hall after events of a sound world is sound
pub sound_ran : {O : Type 0} (exponent : O → ℕ) (place_of : O → ℕ → ℕ → ℕ) (old : Placed O) (hall : Hall O) (events : List Event)
    → ((o : O) (key : ℕ) → IsOrder (2 ^ exponent o) (place_of o key))
    → IsSound (2 ^ exponent old.order) (place_of old.order) old.world → hall.order ≡ old.order
    → world_of hall ≡ after_events (2 ^ exponent old.order) (place_of old.order) old.world events
    → IsSound (2 ^ exponent hall.order) (place_of hall.order) (world_of hall)
sound_ran {O} exponent place_of old hall events is_order sound same ran =
    let n : ℕ = 2 ^ exponent old.order
    in let P : World → Type 0 = λ w. IsSound n (place_of old.order) w
    in let Q : O → Type 0 = λ o. IsSound (2 ^ exponent o) (place_of o) (world_of hall)
    in subst Q (sym same) (subst P (sym ran)
    (sound_after n (place_of old.order) old.world events (is_order old.order) (pow_pos (exponent old.order)) sound))

-- the finished calls of a hall after all events have grown by calls that ended among them
pub grows_ran : {O : Type 0} (n : ℕ) (place : ℕ → ℕ → ℕ) (old : World) (hall : Hall O) (events : List Event) (i : ℕ) → IsSound n place old → length events ≤ i
    → world_of hall ≡ after_events n place old (take i events) → GrowsAmong old.events events old.finished hall.finished.items
grows_ran n place old hall events i sound all ran =
    let whole : world_of hall ≡ after_events n place old events = ran ∙ ap (λ l. after_events n place old l) (take_all i events all)
    in let P : List Finished → Type 0 = λ l. GrowsAmong old.events events old.finished l
    in subst P (sym (ap (λ w. w.finished) whole)) (grows_after n place old events (λ c r e. (sound.on_way c r e).1))
