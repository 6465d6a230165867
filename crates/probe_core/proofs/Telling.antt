-- What a step of a call tells of its key's number.
use Rattle.std.proofs.Common.{◌≡◌, ◌≢◌, ℕ, zero, suc, ◌+◌, ◌<◌, List, length, slice_index_or, slice_set, Bool, true, false, Some, None, refl, ap, ◌∙◌, sym, subst, inl, inr, arith, add-one}
use Rattle.std.specs.Prelude.{◌==◌, ◌&&◌, if◌then◌else◌}
use Rattle.std.proofs.lemmas.Bool.{cond_both, eqb-true, eqb-false, and_parts}
use Rattle.std.proofs.lemmas.List.{length-set, map-set, length-map, set-get_or}
use Rattle.std.proofs.Math.ListN.{get_or-map}
use Rattle.probe_core.specs.declared.calls.Call.{Call}
use Rattle.probe_core.specs.declared.calls.Call.TheVariants as call
use Rattle.probe_core.specs.declared.calls.Answer.{Answer}
use Rattle.probe_core.specs.declared.calls.Answer.TheVariants as answer
use Rattle.probe_core.specs.Order.{IsOrder}
use Rattle.probe_core.specs.Machine.{Machine, Decision, Swaps, GoesOn, Ends, Followed, Runs, Answers, code_of, key_of, followed_by, follows, place_in}
use Rattle.probe_core.specs.Sequential.{Table, Step, IsNumber, IsFree, IsAbsent, IsFull}
use Rattle.probe_core.specs.Placing.{IsOther, HoldOthers, IsOrderly}
use Rattle.probe_core.specs.Inner.Placing.{IsNowhere, AreAllTaken}
use Rattle.probe_core.specs.Showing.{key_in, table_of}
use Rattle.probe_core.specs.Way.{MaySwap, IsOnWay, Tells}
use Rattle.probe_core.specs.World.{words_after}
use Rattle.probe_core.specs.History.{changed}
use Rattle.probe_core.proofs.Winning.{placed_by_win, other_places}
use Rattle.probe_core.proofs.Placings.{nowhere_at_free, nowhere_at_end, taken_at_end, three_ways}

pub shown : (words : List ℕ) (p : ℕ) → slice_index_or (table_of words) p None ≡ key_in (slice_index_or words p 0)
shown words p = get_or-map key_in words p 0

shows_code : (key : ℕ) → key_in (code_of key) ≡ Some key
shows_code key = ap key_in (add-one key)

wrote : (words : List ℕ) (p key : ℕ) → table_of (slice_set words p (code_of key)) ≡ slice_set (table_of words) p (Some key)
wrote words p key = map-set key_in words p (code_of key) ∙ ap (λ o. slice_set (table_of words) p o) (shows_code key)

-- a place that shows the key's word is the key's number
number_at : (n : ℕ) (words : List ℕ) (key p : ℕ) → length words ≡ n → p < n → slice_index_or words p 0 ≡ code_of key
    → IsNumber (table_of words) key p
number_at n words key p whole h e = record {
  within = omega (arith, length-map words key_in, whole, h);
  stands = shown words p ∙ ap key_in e ∙ shows_code key;
}

free_at : (n : ℕ) (words : List ℕ) (p : ℕ) → length words ≡ n → p < n → slice_index_or words p 0 ≡ 0 → IsFree (table_of words) p
free_at n words p whole h e = record {
  within = omega (arith, length-map words key_in, whole, h);
  free = shown words p ∙ ap key_in e;
}

shows_none : (word : ℕ) → key_in word ≡ None → word ≡ 0
shows_none zero e = refl
shows_none (suc word) e = cc

pub shows_some : (word key : ℕ) → key_in word ≡ Some key → word ≡ code_of key
shows_some zero key e = cc
shows_some (suc word) key e = let same : word ≡ key = cc in omega (arith, same)

absent_from : (n : ℕ) (words : List ℕ) (key : ℕ) → length words ≡ n → IsNowhere n words key → IsAbsent (table_of words) key
absent_from n words key whole nowhere p number =
    nowhere p (omega (arith, length-map words key_in, whole, number.within))
    (shows_some (slice_index_or words p 0) key (sym (shown words p) ∙ number.stands))

full_from : (n : ℕ) (words : List ℕ) → length words ≡ n → AreAllTaken n words → IsFull (table_of words)
full_from n words whole taken p free =
    taken p (omega (arith, length-map words key_in, whole, free.within))
    (shows_none (slice_index_or words p 0) (sym (shown words p) ∙ free.free))

-- other keys hold one more place
held_more : (place : ℕ → ℕ) (words : List ℕ) (key i : ℕ) → HoldOthers place words key i
    → slice_index_or words (place i) 0 ≢ 0 → slice_index_or words (place i) 0 ≢ code_of key → HoldOthers place words key (i + 1)
held_more place words key i held taken other j h =
    elim (three_ways j i) [
      | inl before ↦ held j before
      | inr (inl same) ↦
          let P : ℕ → Type 0 = λ x. IsOther (slice_index_or words (place x) 0) key
          in subst P (sym same) (record { taken = taken; other = other })
      | inr (inr behind) ↦ absurd (omega (arith, behind, h))
    ]

full_step : (old new : Table) (asked : Call) → IsAbsent old (key_of asked) → IsFull old → new ≡ old → Step old asked answer.Full new
full_step old new (call.Enter key) absent full same = (absent, full, same)
full_step old new (call.LookUp key) absent full same = (absent, full, same)

found_step : (old new : Table) (asked : Call) (p : ℕ) → IsNumber old (key_of asked) p → new ≡ old → Step old asked (answer.Number p) new
found_step old new (call.Enter key) p number same = inl (number, same)
found_step old new (call.LookUp key) p number same = (number, same)

pub may_load : (asked : Call) → MaySwap asked false
may_load (call.Enter key) = tt
may_load (call.LookUp key) = tt

abbrev pub machine_at : Call → ℕ → Bool → Machine
machine_at asked i swaps = record { call = asked; index = i; swaps = swaps }

-- what is known where a call is at a place
record Stands (n : ℕ) (place : ℕ → ℕ → ℕ) (words : List ℕ) (asked : Call) (i : ℕ) : Type 0 where
  pub order : IsOrder n (place (key_of asked))
  pub orderly : IsOrderly n place words
  pub within : i < n
  pub passed : HoldOthers (place (key_of asked)) words (key_of asked) i

-- a strange key's word: the call loads its next place, or it is full
told_strange : (n : ℕ) (place : ℕ → ℕ → ℕ) (words : List ℕ) (asked : Call) (i : ℕ) (swaps : Bool) → Stands n place words asked i
    → slice_index_or words (place (key_of asked) i) 0 ≢ 0
    → slice_index_or words (place (key_of asked) i) 0 ≢ code_of (key_of asked)
    → words_after words (machine_at asked i swaps) (place (key_of asked) i) ≡ words
    → Tells n place words (machine_at asked i swaps) (followed_by n (machine_at asked i swaps) GoesOn)
told_strange n place words asked i swaps at taken other still =
    let key : ℕ = key_of asked
    in let m : Machine = machine_at asked i swaps
    in let held : HoldOthers (place key) words key (i + 1) = held_more (place key) words key i at.passed taken other
    in let P : Followed → Type 0 = Tells n place words m
    in cond_both (i + 1 == n) (Answers answer.Full) (Runs (machine_at asked (i + 1) false)) P
    (λ e.
    let H : ℕ → Type 0 = λ j. HoldOthers (place key) words key j
    in let all : HoldOthers (place key) words key n = subst H (eqb-true (i + 1) n e) held
    in full_step (table_of words) (table_of (words_after words m (place key i))) asked
    (absent_from n words key at.orderly.whole (nowhere_at_end n place words key at.order all))
    (full_from n words at.orderly.whole (taken_at_end n place words key at.order all))
    (ap table_of still))
    (λ e.
    let apart : i + 1 ≢ n = eqb-false (i + 1) n e
    in record {
      same = refl;
      on_way = record { within = omega (arith, apart, at.within); passed = held; swapping = may_load asked };
      still = still;
    })

-- the key's own word: its place is the key's number
told_own : (n : ℕ) (place : ℕ → ℕ → ℕ) (words : List ℕ) (asked : Call) (i : ℕ) (swaps : Bool) → Stands n place words asked i
    → slice_index_or words (place (key_of asked) i) 0 ≡ code_of (key_of asked)
    → words_after words (machine_at asked i swaps) (place (key_of asked) i) ≡ words
    → Tells n place words (machine_at asked i swaps) (Answers (answer.Number (place (key_of asked) i)))
told_own n place words asked i swaps at own still =
    let p : ℕ = place (key_of asked) i
    in found_step (table_of words) (table_of (words_after words (machine_at asked i swaps) p)) asked p
    (number_at n words (key_of asked) p at.orderly.whole (at.order.within i at.within) own)
    (ap table_of still)

-- a word that is not free tells the same, whether it was loaded or swapped
told_taken : (n : ℕ) (place : ℕ → ℕ → ℕ) (words : List ℕ) (asked : Call) (i : ℕ) (swaps : Bool) → Stands n place words asked i
    → slice_index_or words (place (key_of asked) i) 0 ≢ 0
    → words_after words (machine_at asked i swaps) (place (key_of asked) i) ≡ words
    → Tells n place words (machine_at asked i swaps)
    (followed_by n (machine_at asked i swaps)
    (if slice_index_or words (place (key_of asked) i) 0 == code_of (key_of asked)
    then Ends (answer.Number (place (key_of asked) i)) else GoesOn))
told_taken n place words asked i swaps at taken still =
    let m : Machine = machine_at asked i swaps
    in let word : ℕ = slice_index_or words (place (key_of asked) i) 0
    in let P : Decision → Type 0 = λ d. Tells n place words m (followed_by n m d)
    in cond_both (word == code_of (key_of asked)) (Ends (answer.Number (place (key_of asked) i))) GoesOn P
    (λ e. told_own n place words asked i swaps at (eqb-true word (code_of (key_of asked)) e) still)
    (λ e. told_strange n place words asked i swaps at taken (eqb-false word (code_of (key_of asked)) e) still)

-- a free place: the key is nowhere
absent_at : (n : ℕ) (place : ℕ → ℕ → ℕ) (words : List ℕ) (asked : Call) (i : ℕ) → Stands n place words asked i
    → slice_index_or words (place (key_of asked) i) 0 ≡ 0 → IsAbsent (table_of words) (key_of asked)
absent_at n place words asked i at free =
    absent_from n words (key_of asked) at.orderly.whole
    (nowhere_at_free n place words (key_of asked) i at.order at.orderly.placed at.passed free)

tells_at : (n : ℕ) (place : ℕ → ℕ → ℕ) (words : List ℕ) (asked : Call) (i : ℕ) (swaps : Bool) → Stands n place words asked i
    → MaySwap asked swaps
    → Tells n place words (machine_at asked i swaps)
    (follows n (machine_at asked i swaps) (place (key_of asked) i) (slice_index_or words (place (key_of asked) i) 0))
tells_at n place words (call.Enter key) i false at may =
    let m : Machine = machine_at (call.Enter key) i false
    in let p : ℕ = place key i
    in let word : ℕ = slice_index_or words p 0
    in let P : Decision → Type 0 = λ d. Tells n place words m (followed_by n m d)
    in cond_both (word == 0) Swaps (if word == code_of key then Ends (answer.Number p) else GoesOn) P
    (λ e. record { same = refl; on_way = record { within = at.within; passed = at.passed; swapping = tt }; still = refl })
    (λ e. told_taken n place words (call.Enter key) i false at (eqb-false word 0 e) refl)
tells_at n place words (call.Enter key) i true at may =
    let m : Machine = machine_at (call.Enter key) i true
    in let p : ℕ = place key i
    in let word : ℕ = slice_index_or words p 0
    in let P : Decision → Type 0 = λ d. Tells n place words m (followed_by n m d)
    in let won : List ℕ = slice_set words p (code_of key)
    in cond_both (word == 0) (Ends (answer.Number p)) (if word == code_of key then Ends (answer.Number p) else GoesOn) P
    (λ e.
    let free : word ≡ 0 = eqb-true word 0 e
    in let after : words_after words m p ≡ won = ap (λ b. if b then won else words) e
    in inr (
      absent_at n place words (call.Enter key) i at free,
      free_at n words p at.orderly.whole (at.order.within i at.within) free,
      ap table_of after ∙ wrote words p key,
    ))
    (λ e. told_taken n place words (call.Enter key) i true at (eqb-false word 0 e) (ap (λ b. if b then won else words) e))
tells_at n place words (call.LookUp key) i true at may = absurd may
tells_at n place words (call.LookUp key) i false at may =
    let m : Machine = machine_at (call.LookUp key) i false
    in let p : ℕ = place key i
    in let word : ℕ = slice_index_or words p 0
    in let P : Decision → Type 0 = λ d. Tells n place words m (followed_by n m d)
    in cond_both (word == 0) (Ends answer.Absent) (if word == code_of key then Ends (answer.Number p) else GoesOn) P
    (λ e.
    let free : word ≡ 0 = eqb-true word 0 e
    in (
      absent_at n place words (call.LookUp key) i at free,
      (p, free_at n words p at.orderly.whole (at.order.within i at.within) free),
      refl,
    ))
    (λ e. told_taken n place words (call.LookUp key) i false at (eqb-false word 0 e) refl)

-- what a step of a call on its way tells
pub step_tells : (n : ℕ) (place : ℕ → ℕ → ℕ) (words : List ℕ) (machine : Machine) → IsOrder n (place (key_of machine.call))
    → IsOrderly n place words → IsOnWay n place words machine
    → Tells n place words machine (follows n machine (place_in place machine) (slice_index_or words (place_in place machine) 0))
step_tells n place words machine order orderly way =
    tells_at n place words machine.call machine.index machine.swaps
    (record { order = order; orderly = orderly; within = way.within; passed = way.passed })
    way.swapping

-- the words after a step are orderly again
pub step_keeps_order : (n : ℕ) (place : ℕ → ℕ → ℕ) (words : List ℕ) (machine : Machine) → IsOrder n (place (key_of machine.call))
    → IsOrderly n place words → IsOnWay n place words machine
    → IsOrderly n place (words_after words machine (place_in place machine))
step_keeps_order n place words machine order orderly way =
    let p : ℕ = place_in place machine
    in let c : ℕ = code_of (key_of machine.call)
    in let P : List ℕ → Type 0 = λ after. IsOrderly n place after
    in cond_both (machine.swaps && (slice_index_or words p 0 == 0)) (slice_set words p c) words P
    (λ e.
    let free : slice_index_or words p 0 ≡ 0 = eqb-true (slice_index_or words p 0) 0 (and_parts machine.swaps _ e).1
    in record {
      whole = length-set words p c ∙ orderly.whole;
      placed = placed_by_win n place words (key_of machine.call) machine.index order orderly.placed way.within orderly.whole way.passed free;
    })
    (λ e. orderly)

-- other calls stay on their way, whatever a step does
pub step_keeps_way : (n : ℕ) (place : ℕ → ℕ → ℕ) (words : List ℕ) (machine other : Machine) → IsOnWay n place words other
    → IsOnWay n place (words_after words machine (place_in place machine)) other
step_keeps_way n place words machine other way =
    let p : ℕ = place_in place machine
    in let c : ℕ = code_of (key_of machine.call)
    in let key : ℕ = key_of other.call
    in let P : List ℕ → Type 0 = λ after. IsOnWay n place after other
    in cond_both (machine.swaps && (slice_index_or words p 0 == 0)) (slice_set words p c) words P
    (λ e.
    let free : slice_index_or words p 0 ≡ 0 = eqb-true (slice_index_or words p 0) 0 (and_parts machine.swaps _ e).1
    in record {
      within = way.within;
      passed = λ j h. other_places (place key) words key p c j free (way.passed j h);
      swapping = way.swapping;
    })
    (λ e. way)

-- a step of the sequential table changes it as the history's content changes
pub step_is_change : (old : Table) (asked : Call) (found : Answer) (new : Table) → Step old asked found new → new ≡ changed old asked found
step_is_change old (call.Enter key) (answer.Number p) new step =
    elim step [
      | inl found ↦
          let kept : slice_set old p (Some key) ≡ old = ap (λ o. slice_set old p o) (sym found.0.stands) ∙ set-get_or old p None
          in found.1 ∙ sym kept
      | inr added ↦ added.2
    ]
step_is_change old (call.Enter key) answer.Absent new step = absurd step
step_is_change old (call.Enter key) answer.Full new step = step.2
step_is_change old (call.LookUp key) (answer.Number p) new step = step.1
step_is_change old (call.LookUp key) answer.Absent new step = step.2
step_is_change old (call.LookUp key) answer.Full new step = step.2
