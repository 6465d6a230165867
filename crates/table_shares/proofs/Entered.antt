-- Passes that enter the patterns of a game, and what is answered.
use Rattle.std.proofs.Common.{◌≡◌, ℕ, ◌<◌, ◌⊎◌, List, length, subst, arith, inl, inr, ⊎_elim, Contains, refl, sym, ◌∙◌, slice_index}
use Rattle.table_shares.proofs.Common.{All-from_recursion, All-contains, Contains-append_cases, Answer, Happened, content_of, AreMade, entered, AreTold, IsTold, IsFullBefore, IsAbsent, IsFull, shapes_of, length-map, get_or-map, Known, calls_of, Meeting, meeting_at, answer_at, AreNumbers, IsCall, CallsOnly, EntersOnly}
use Rattle.probe_core.specs.declared.calls.Answer.TheVariants as answer
use Rattle.slot_table.proofs.Entered.{all_made}

-- ---- which calls a pass made
-- each call that a pass has made by now it had made before, or it is such a one
pub calls_are : {O : Type 0} (n : ℕ) (enters : ℕ → Answer → Type 0) (marks : ℕ → ℕ → Type 0) (old new : Known O) →
    CallsOnly n enters marks old new → (e : Happened) → Contains (calls_of new) e →
    Contains (calls_of old) e ⊎ IsCall enters marks e
calls_are n enters marks old new h e there =
    let P : Happened → Type 0 = IsCall enters marks in
    ⊎_elim inl (λ (since : Contains h.made e). inr (All-contains P h.made e (All-from_recursion P h.made h.only) since))
    (Contains-append_cases (calls_of old) h.made e (subst (λ (calls : List Happened). Contains calls e) h.later.calls there))

-- the calls of a batch enter its keys, each with its answer
pub batch_enters : {O : Type 0} {n : ℕ} (enters : ℕ → Answer → Type 0) (keys : List ℕ) (answers : List Answer) {old new : Known O} →
    AreMade n (entered keys answers) old new → ((i : ℕ) → i < length keys → enters (slice_index keys i) (answer_at answers i)) →
    EntersOnly n enters old new
batch_enters {n = n} enters keys answers {old = old} {new = new} made each = record {
  made = made.made;
  later = made.later;
  only = all_made n (IsCall enters (λ _ _. ⊥)) keys answers old new made each;
}

-- ---- what was answered
full_apart : (k : ℕ) → answer.Full ≡ answer.Number k → ⊥
full_apart k is = absurd cc

-- the shape at a place of a list of meetings
pub shape_at : (meetings : List Meeting) (i : ℕ) → i < length meetings →
    slice_index (shapes_of meetings) i ≡ (meeting_at meetings i).shape
shape_at meetings i inside = get_or-map (λ (m : Meeting). m.shape) meetings i
    (record { shape = 0; there = 0; played = 0 }) 0 inside

-- the answer for a meeting tells
pub told_at : (n : ℕ) (seen : List Happened) (meetings : List Meeting) (answers : List Answer) (i : ℕ) (found : Answer) →
    AreTold n seen (shapes_of meetings) answers → i < length meetings → answer_at answers i ≡ found →
    IsTold n seen (meeting_at meetings i).shape found
told_at n seen meetings answers i found told inside is =
    rw (← is, ← shape_at meetings i inside) (told i (omega (arith, length-map meetings (λ (m : Meeting). m.shape), inside)))

-- the first answer that is no number tells that the key has none and that none is free
pub tells_refused : (n : ℕ) (seen : List Happened) (key place : ℕ) (answers : List Answer) →
    AreNumbers answers place → (found : Answer) → ((k : ℕ) → found ≡ answer.Number k → ⊥) → (found ≡ answer.Absent → IsFullBefore answers place) →
    IsTold n seen key found → IsAbsent (content_of n seen) key × IsFull (content_of n seen)
tells_refused n seen key place answers numbers (answer.Number number) none after told = absurd (none number refl)
tells_refused n seen key place answers numbers answer.Full none after told = told
tells_refused n seen key place answers numbers answer.Absent none after told =
    let full = after refl in
    absurd (full_apart (numbers full.0 full.1).0 (sym full.2 ∙ (numbers full.0 full.1).1))
