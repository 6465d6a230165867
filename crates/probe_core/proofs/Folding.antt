-- The fold of a world over events, one event more at its end.
use Rattle.std.proofs.Common.{◌≡◌, ℕ, ◌+◌, ◌<◌, List, [], ◌∷◌, ◌++◌, length, take, drop, get_or, cond, refl, ap, ◌∙◌, sym, zero-add}
use Rattle.std.specs.List.{count_by, sum_by}
use Rattle.std.proofs.lemmas.List.Sums.{sum_by-drop_more}
use Rattle.std.proofs.lemmas.List.{take_more}
use Rattle.probe_core.specs.declared.events.Event.{Event}
use Rattle.probe_core.specs.World.{World, happened, counted, after_events}
use Rattle.probe_core.specs.Inner.Hall.{is_step}

after_more : (n : ℕ) (place : ℕ → ℕ → ℕ) (world : World) (events : List Event) (e : Event)
    → after_events n place world (events ++ e ∷ []) ≡ counted (happened n place (after_events n place world events) e)
after_more n place world [] e = refl
after_more n place world (first ∷ events) e = after_more n place (counted (happened n place world first)) events e

pub after_taken : (n : ℕ) (place : ℕ → ℕ → ℕ) (world now new : World) (events : List Event) (i : ℕ) (e : Event) → i < length events → e ≡ get_or events i e
    → now ≡ after_events n place world (take i events) → new ≡ counted (happened n place now e)
    → new ≡ after_events n place world (take (i + 1) events)
after_taken n place world now new events i e within item ran step =
    let front : take (i + 1) events ≡ take i events ++ e ∷ [] =
    take_more events i e within ∙ ap (λ x. take i events ++ x ∷ []) (sym item)
    in step ∙ ap (λ w. counted (happened n place w e)) ran
    ∙ sym (after_more n place world (take i events) e)
    ∙ ap (λ l. after_events n place world l) (sym front)

-- how many of the events that are left may end a call, one event on
pub steps_left : (events : List Event) (i : ℕ) (e : Event) → i < length events → e ≡ get_or events i e
    → count_by is_step (drop i events) ≡ count_by is_step (e ∷ []) + count_by is_step (drop (i + 1) events)
steps_left events i e within item =
    let weight : Event → ℕ = λ x. cond (is_step x) 1 0
    in let one : count_by is_step (e ∷ []) ≡ weight e = zero-add (weight e)
    in sum_by-drop_more weight events i e within
    ∙ ap (λ x. weight x + sum_by weight (drop (i + 1) events)) (sym item)
    ∙ ap (λ k. k + sum_by weight (drop (i + 1) events)) (sym one)
