-- The definition of a world at worked schedules: two callers at tables of 1, 2 and 16 slots.
use Rattle.std.proofs.Common.{◌≡◌, ℕ, List, [], ◌∷◌, refl}
use Rattle.probe_core.specs.declared.calls.Call.{Call}
use Rattle.probe_core.specs.declared.calls.Call.TheVariants.{Enter, LookUp}
use Rattle.probe_core.specs.declared.calls.Answer.{Answer}
use Rattle.probe_core.specs.declared.calls.Answer.TheVariants.{Number, Absent, Full}
use Rattle.probe_core.specs.declared.events.Event.{Event}
use Rattle.probe_core.specs.declared.events.Event.TheVariants.{Begin, Step}
use Rattle.probe_core.specs.declared.events.Finished.{Finished}
use Rattle.probe_core.specs.Order.{linear_place, odd_place}
use Rattle.probe_core.specs.World.{World, new_world, after_events}

abbrev ended : ℕ → Call → Answer → ℕ → ℕ → Finished
ended caller asked answer from to = record { caller = caller; call = asked; answer = answer; begun = from; ended = to }

abbrev linear_world : ℕ → ℕ → List Event → World
linear_world n k events = after_events n (linear_place k) (new_world n 2) events

abbrev odd_world : ℕ → ℕ → List Event → World
odd_world n k events = after_events n (odd_place k) (new_world n 2) events

abbrev one_key : List Event
one_key = Begin 0 (Enter 5) ∷ Begin 1 (Enter 5) ∷ Step 0 ∷ Step 1 ∷ Step 0 ∷ Step 1 ∷ []

one_key_linear : (linear_world 2 1 one_key).finished ≡ ended 0 (Enter 5) (Number 0) 0 4 ∷ ended 1 (Enter 5) (Number 0) 1 5 ∷ []
one_key_linear = refl

one_key_odd : (odd_world 2 1 one_key).finished ≡ ended 0 (Enter 5) (Number 0) 0 4 ∷ ended 1 (Enter 5) (Number 0) 1 5 ∷ []
one_key_odd = refl

one_key_words : (linear_world 2 1 one_key).words ≡ 6 ∷ 0 ∷ []
one_key_words = refl

abbrev one_slot : List Event
one_slot = Begin 0 (Enter 5) ∷ Begin 1 (Enter 6) ∷ Step 0 ∷ Step 1 ∷ Step 1 ∷ Step 0 ∷ []

one_slot_linear : (linear_world 1 0 one_slot).finished ≡ ended 1 (Enter 6) (Number 0) 1 4 ∷ ended 0 (Enter 5) Full 0 5 ∷ []
one_slot_linear = refl

one_slot_odd : (odd_world 1 0 one_slot).finished ≡ ended 1 (Enter 6) (Number 0) 1 4 ∷ ended 0 (Enter 5) Full 0 5 ∷ []
one_slot_odd = refl

one_slot_words : (linear_world 1 0 one_slot).words ≡ 7 ∷ []
one_slot_words = refl

look_up_first : (linear_world 1 0 (Begin 0 (LookUp 7) ∷ Begin 1 (Enter 7) ∷ Step 0 ∷ Step 1 ∷ Step 1 ∷ [])).finished
    ≡ ended 0 (LookUp 7) Absent 0 2 ∷ ended 1 (Enter 7) (Number 0) 1 4 ∷ []
look_up_first = refl

abbrev look_up_last : List Event
look_up_last = Begin 0 (LookUp 7) ∷ Begin 1 (Enter 7) ∷ Step 1 ∷ Step 1 ∷ Step 0 ∷ []

look_up_finds : (linear_world 1 0 look_up_last).finished ≡ ended 1 (Enter 7) (Number 0) 1 3 ∷ ended 0 (LookUp 7) (Number 0) 0 4 ∷ []
look_up_finds = refl

-- the step of an idle caller is counted, and that is all
idle_step_is_counted : (linear_world 1 0 (Begin 0 (LookUp 7) ∷ Begin 1 (Enter 7) ∷ Step 1 ∷ Step 1 ∷ Step 0 ∷ Step 0 ∷ []))
    ≡ record (linear_world 1 0 look_up_last) { events = 6 }
idle_step_is_counted = refl

abbrev two_keys : List Event
two_keys = Begin 0 (Enter 1) ∷ Step 0 ∷ Step 0 ∷ Begin 1 (Enter 22) ∷ Step 1 ∷ Step 1 ∷ Step 1 ∷ []

two_keys_odd : (odd_world 16 4 two_keys).finished ≡ ended 0 (Enter 1) (Number 9) 0 2 ∷ ended 1 (Enter 22) (Number 0) 3 6 ∷ []
two_keys_odd = refl

two_keys_linear : (linear_world 16 4 two_keys).finished ≡ ended 0 (Enter 1) (Number 9) 0 2 ∷ ended 1 (Enter 22) (Number 10) 3 6 ∷ []
two_keys_linear = refl
