-- The first place that passes a test, and whether there is one.
use Rattle.std.proofs.Common.{◌≡◌, ℕ, suc, ◌+◌, Bool, true, false, not, cond, ◌||◌, List, [], ◌∷◌, length, Some, None, refl, nat_lt, ap, sym, ◌∙◌}
use Rattle.std.specs.List.{list_any, position_or_len}
use Rattle.std.proofs.Common.{position}
use Rattle.std.proofs.Math.Dec.{leb-zero, leb-suc-suc}
use Rattle.std.proofs.Math.Numerals.{one-add}

pub list_any-position : {X : Type 0} (p : X → Bool) (xs : List X) → list_any p xs ≡ nat_lt (position_or_len p xs) (length xs)
list_any-position p [] = refl
list_any-position p (x ∷ xs) =
    elim (p x) as (λ b. (b || list_any p xs) ≡ nat_lt (cond (not b) (1 + position_or_len p xs) 0) (suc (length xs)))
    [ true ↦ sym (leb-suc-suc 0 (length xs) ∙ leb-zero (length xs)) | false ↦ list_any-position p xs ∙ sym (ap (λ n. nat_lt n (suc (length xs))) (one-add (position_or_len p xs)) ∙ leb-suc-suc (suc (position_or_len p xs)) (length xs)) ]

-- what `position` answers by the place and by the test
chosen : (b : Bool) (n i : ℕ) → cond b (Some n) None ≡ Some i → (b ≡ true) × (n ≡ i)
chosen true n i h = (refl, cc)
chosen false n i h = cc

none_chosen : (b : Bool) (n : ℕ) → cond b (Some n) None ≡ None → b ≡ false
none_chosen true n h = cc
none_chosen false n h = refl

pub position_found : {X : Type 0} (p : X → Bool) (xs : List X) (i : ℕ) → position p xs ≡ Some i → (list_any p xs ≡ true) × (position_or_len p xs ≡ i)
position_found p xs i h =
    let parts = chosen (nat_lt (position_or_len p xs) (length xs)) (position_or_len p xs) i h in
    (list_any-position p xs ∙ parts.0, parts.1)

pub position_none : {X : Type 0} (p : X → Bool) (xs : List X) → position p xs ≡ None → list_any p xs ≡ false
position_none p xs h = list_any-position p xs ∙ none_chosen (nat_lt (position_or_len p xs) (length xs)) (position_or_len p xs) h
