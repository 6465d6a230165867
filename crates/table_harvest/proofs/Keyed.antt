-- Sums over a list, key by key: two lists whose sums are alike at each key have the same sum.
use Rattle.std.proofs.Common.{◌≡◌, ℕ, ◌+◌, ◌<◌, ◌≤◌, ◌==◌, cond, suc, List, [], ◌∷◌, refl, ap, sym, ◌∙◌, arith}
use Rattle.std.specs.Prelude.{sum_by}
use Rattle.std.specs.List.{AllByRecursion}
use Rattle.std.proofs.lemmas.List.Sums.{sum_by-cons}
use Rattle.shape_core.specs.Word.{count_from}
use Rattle.tally_core.proofs.DoubleCounting.{sum-none, sum-same}
use Rattle.gather_core.proofs.NumberedGames.{sum_once}

-- ---- sums
pub sum_both : {X : Type 0} (f g : X → ℕ) (xs : List X) → sum_by (λ x. f x + g x) xs ≡ sum_by f xs + sum_by g xs
sum_both f g [] = refl
sum_both f g (x ∷ xs) =
    let rest = sum_both f g xs in
    let of_f = sum_by-cons f x xs in
    let of_g = sum_by-cons g x xs in
    sum_by-cons (λ y. f y + g y) x xs ∙ omega arith

sum_less : {X : Type 0} (f g : X → ℕ) (xs : List X) → ((x : X) → f x ≤ g x) → sum_by f xs ≤ sum_by g xs
sum_less f g [] less = omega arith
sum_less f g (x ∷ xs) less = omega (arith, sum_by-cons f x xs, sum_by-cons g x xs, less x, sum_less f g xs less)

-- ---- what the members of a key add
abbrev pub at_key : {X : Type 0} → (X → ℕ) → (X → ℕ) → List X → ℕ → ℕ
at_key key weight xs k = sum_by (λ x. cond (key x == k) (weight x) 0) xs

-- each key is below this number
abbrev AreBelow : {X : Type 0} → (X → ℕ) → ℕ → List X → Type 0
AreBelow key n xs = AllByRecursion (λ x. key x < n) xs

by_key : {X : Type 0} (key weight : X → ℕ) (n : ℕ) (xs : List X) → AreBelow key n xs → sum_by (at_key key weight xs) (count_from 0 n) ≡ sum_by weight xs
by_key key weight n [] below = sum-none (at_key key weight []) (count_from 0 n) (λ k. refl)
by_key key weight n (x ∷ xs) below =
    let low = below.0 in
    sum-same (at_key key weight (x ∷ xs)) (λ k. cond (key x == k) (weight x) 0 + at_key key weight xs k) (count_from 0 n)
    (λ k. sum_by-cons (λ y. cond (key y == k) (weight y) 0) x xs)
    ∙ sum_both (λ k. cond (key x == k) (weight x) 0) (at_key key weight xs) (count_from 0 n)
    ∙ ap (λ m. m + sum_by (at_key key weight xs) (count_from 0 n)) (sum_once 0 n (key x) (weight x) (omega arith) (omega arith))
    ∙ ap (λ m. weight x + m) (by_key key weight n xs below.1)
    ∙ sym (sum_by-cons weight x xs)

-- ---- a number above all keys
below_more : {X : Type 0} (key : X → ℕ) (n m : ℕ) (xs : List X) → n ≤ m → AreBelow key n xs → AreBelow key m xs
below_more key n m [] up below = tt
below_more key n m (x ∷ xs) up below = (let low = below.0 in omega arith, below_more key n m xs up below.1)

below_all : {X : Type 0} (key : X → ℕ) (xs : List X) → AreBelow key (suc (sum_by key xs)) xs
below_all key [] = tt
below_all key (x ∷ xs) =
    let all = sum_by-cons key x xs in
    (omega arith, below_more key (suc (sum_by key xs)) (suc (sum_by key (x ∷ xs))) xs (omega arith) (below_all key xs))

-- what adds no more at any key adds no more in all
pub sum_by_keys : {X Y : Type 0} (key weight : X → ℕ) (xs : List X) (other worth : Y → ℕ) (ys : List Y) →
    ((k : ℕ) → at_key key weight xs k ≤ at_key other worth ys k) → sum_by weight xs ≤ sum_by worth ys
sum_by_keys key weight xs other worth ys less =
    let n = suc (sum_by key xs) + suc (sum_by other ys) in
    let mine = by_key key weight n xs (below_more key (suc (sum_by key xs)) n xs (omega arith) (below_all key xs)) in
    let theirs = by_key other worth n ys (below_more other (suc (sum_by other ys)) n ys (omega arith) (below_all other ys)) in
    let both = sum_less (at_key key weight xs) (at_key other worth ys) (count_from 0 n) less in
    omega arith
