-- Points in order, the first of them apart.
use Rattle.std.proofs.Common.{◌≡◌, ℕ, suc, ◌+◌, ◌-◌, ◌<◌, Bool, true, false, cond, List, [], ◌∷◌, ◌++◌, filter, refl, ap, ◌∙◌, add-one, sym, arith}
use Rattle.std.specs.List.{flat_map}
use Rattle.std.proofs.lemmas.List.{append-nil}
use Rattle.shape_core.specs.Word.{count_from}

pub count_from-first : (n k : ℕ) → k < n → count_from k (n - k) ≡ k ∷ count_from (k + 1) (n - (k + 1))
count_from-first n k inside =
    let more : n - k ≡ suc (n - (k + 1)) = omega arith in
    ap (count_from k) more ∙ ap (λ m. k ∷ count_from m (n - (k + 1))) (sym (add-one k))

flat_map-cons : {X Y : Type 0} (f : X → List Y) (x : X) (xs : List X) → flat_map f (x ∷ xs) ≡ flat_map f (x ∷ []) ++ flat_map f xs
flat_map-cons f x xs = ap (λ ys. ys ++ flat_map f xs) (sym (append-nil (f x)))

-- what is kept of the first, then what is kept of the others
pub kept-cons : {X Y : Type 0} (f : X → List Y) (p : X → Bool) (x : X) (xs : List X) →
    flat_map f (filter p (x ∷ xs)) ≡ flat_map f (filter p (x ∷ [])) ++ flat_map f (filter p xs)
kept-cons f p x xs =
    elim (p x) as (λ b. flat_map f (cond b (x ∷ filter p xs) (filter p xs)) ≡ flat_map f (cond b (x ∷ []) []) ++ flat_map f (filter p xs))
    [ true ↦ flat_map-cons f x (filter p xs) | false ↦ refl ]
