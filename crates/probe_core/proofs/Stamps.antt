-- Lists that get one element more at their end.
use Rattle.std.proofs.Common.{◌≡◌, ℕ, zero, suc, ◌⊎◌, List, [], ◌∷◌, ◌++◌, length, Some, slice_get, refl, ap, inl, inr}

-- an element of the front is at the same index of the whole
pub get_front : {X : Type 0} (xs ys : List X) (i : ℕ) (x : X) → slice_get xs i ≡ Some x → slice_get (xs ++ ys) i ≡ Some x
get_front [] ys i x e = cc
get_front (z ∷ xs) ys zero x e = e
get_front (z ∷ xs) ys (suc i) x e = get_front xs ys i x e

-- the last element
pub get_last : {X : Type 0} (xs : List X) (x : X) → slice_get (xs ++ x ∷ []) (length xs) ≡ Some x
get_last [] x = refl
get_last (z ∷ xs) x = get_last xs x

-- an element of the whole is in the front, or is the last one
pub get_either : {X : Type 0} (xs : List X) (x : X) (i : ℕ) (y : X) → slice_get (xs ++ x ∷ []) i ≡ Some y
    → (slice_get xs i ≡ Some y) ⊎ ((i ≡ length xs) × (x ≡ y))
get_either [] x zero y e = inr (refl, cc)
get_either [] x (suc i) y e = inl e
get_either (z ∷ xs) x zero y e = inl e
get_either (z ∷ xs) x (suc i) y e =
    elim (get_either xs x i y e) [
      | inl front ↦ inl front
      | inr last ↦ inr (ap suc last.0, last.1)
    ]
