-- What is left of meetings, where each that was met is taken out of a set.
use Rattle.std.proofs.Common.{◌≡◌, ℕ, suc, ◌+◌, ◌<◌, true, false, cond, List, ◌∷◌, length, get_or, drop, ap, sym, ◌∙◌, arith}
use Rattle.std.specs.Prelude.{slice_get, filter, nat_eq}
use Rattle.std.specs.HashSet.{HashSet, contains, Updates}
use Rattle.std.proofs.lemmas.List.{drop_more}
use Rattle.tally_core.specs.Walk.{once_each, shapes_of}
use Rattle.tally_core.specs.declared.meetings.Meeting.{Meeting}
use Rattle.beyond_core.proofs.Places.{one_by_one}

-- the words that were met and are in a set
abbrev pub kept : {S : Type 0} → HashSet ℕ S → List Meeting → List ℕ
kept set meetings = filter (contains nat_eq set) (once_each (shapes_of meetings))

module _ {S : Type 0} (set after : HashSet ℕ S) (meetings : List Meeting) (i : ℕ) (one : Meeting) (is : one ≡ get_or meetings i one) (within : i < length meetings)
    (taken : Updates nat_eq set after one.shape false) where
  kept_one : kept set (drop i meetings) ≡ cond (contains nat_eq set one.shape) (one.shape ∷ kept after (drop (i + 1) meetings)) (kept after (drop (i + 1) meetings))
  kept_one =
      ap (kept set) (drop_more meetings i one within ∙ ap (λ m. m ∷ drop (i + 1) meetings) (sym is))
      ∙ one_by_one (contains nat_eq set) (contains nat_eq after) one.shape (shapes_of (drop (i + 1) meetings)) taken.0

  -- its word was there, and another place is wanted
  pub kept_later : contains nat_eq set one.shape ≡ true → (left more : ℕ) → left ≡ more + 1 → slice_get (kept set (drop i meetings)) left ≡ slice_get (kept after (drop (i + 1) meetings)) more
  kept_later there left more next =
      let at : left ≡ suc more = omega (arith, next) in
      ap (λ ws. slice_get ws left) (kept_one ∙ ap (λ b. cond b (one.shape ∷ kept after (drop (i + 1) meetings)) (kept after (drop (i + 1) meetings))) there)
      ∙ ap (slice_get (one.shape ∷ kept after (drop (i + 1) meetings))) at

  -- its word was not there
  pub kept_other : contains nat_eq set one.shape ≡ false → (left : ℕ) → slice_get (kept set (drop i meetings)) left ≡ slice_get (kept after (drop (i + 1) meetings)) left
  kept_other none left =
      ap (λ ws. slice_get ws left) (kept_one ∙ ap (λ b. cond b (one.shape ∷ kept after (drop (i + 1) meetings)) (kept after (drop (i + 1) meetings))) none)
