-- Which number stands at a place of a list with each number at its first place only.
use Rattle.std.proofs.Common.{◌≡◌, ℕ, zero, suc, ◌+◌, ◌<◌, ◌==◌, ◌&&◌, ◌||◌, Bool, true, false, not, cond, List, [], ◌∷◌, ◌++◌, length, Some, refl, ap, ap₂, sym, ◌∙◌, append_assoc, arith}
use Rattle.std.specs.Prelude.{slice_get, filter, nat_eq}
use Rattle.std.proofs.lemmas.Bool.Decides.{nat_tests}
use Rattle.std.proofs.lemmas.List.Elements.{filter_agree, filter_passes}
use Rattle.std.proofs.lemmas.Option.{slice_get_within, get_or_from_slice_get}
use Rattle.tally_core.specs.Walk.{once_each}
use Rattle.tally_core.proofs.Once.{is_in, or-true, once_append}

same_test : (a : ℕ) → (a == a) ≡ true
same_test a = Prim.grind (arith, nat_tests)

filter_twice : (p q : ℕ → Bool) (xs : List ℕ) → filter p (filter q xs) ≡ filter (λ x. q x && p x) xs
filter_twice p q [] = refl
filter_twice p q (x ∷ xs) =
    elim (q x) as (λ b. filter p (cond b (x ∷ filter q xs) (filter q xs)) ≡ cond (b && p x) (x ∷ filter (λ y. q y && p y) xs) (filter (λ y. q y && p y) xs)) [
      | true ↦ ap (λ ys. cond (p x) (x ∷ ys) ys) (filter_twice p q xs)
      | false ↦ filter_twice p q xs
    ]

-- tests that agree on the numbers of a list leave the same of it
filter_same : (p q : ℕ → Bool) (xs : List ℕ) → ((x : ℕ) → is_in x xs ≡ true → p x ≡ q x) → filter p xs ≡ filter q xs
filter_same p q [] agree = refl
filter_same p q (x ∷ xs) agree =
    ap₂ (λ b ys. cond b (x ∷ ys) ys) (agree x (ap (λ b. b || is_in x xs) (same_test x)))
    (filter_same p q xs (λ y inside. agree y (ap (λ b. (y == x) || b) inside ∙ or-true (y == x))))

get_front : (xs ys : List ℕ) (k : ℕ) → k < length xs → slice_get (xs ++ ys) k ≡ slice_get xs k
get_front [] ys k inside = absurd (omega (arith, inside))
get_front (x ∷ xs) ys zero inside = refl
get_front (x ∷ xs) ys (suc k) inside = get_front xs ys k (omega (arith, inside))

get_back : (xs ys : List ℕ) (j k : ℕ) → j ≡ length xs + k → slice_get (xs ++ ys) j ≡ slice_get ys k
get_back [] ys j k is = ap (slice_get ys) (omega (arith, is))
get_back (x ∷ xs) ys zero k is = absurd (omega (arith, is))
get_back (x ∷ xs) ys (suc j) k is = get_back xs ys j k (omega (arith, is))

-- what a test leaves passes it
pub passes_at : (t : ℕ → Bool) (xs : List ℕ) (k x : ℕ) → slice_get (filter t xs) k ≡ Some x → t x ≡ true
passes_at t xs k x is =
    let inside = slice_get_within (filter t xs) k x is in
    sym (ap t (get_or_from_slice_get (filter t xs) k x 0 is)) ∙ filter_passes t xs k 0 inside

-- what follows two lists changes nothing at their places
pub front_at : (first second rest : List ℕ) (place : ℕ) → place < length (once_each (first ++ second)) →
    slice_get (once_each (first ++ (second ++ rest))) place ≡ slice_get (once_each (first ++ second)) place
front_at first second rest place inside =
    ap (λ ws. slice_get (once_each ws) place) (sym (append_assoc first second rest))
    ∙ ap (λ ws. slice_get ws place) (once_append (first ++ second) rest)
    ∙ get_front (once_each (first ++ second)) (filter (λ y. not (is_in y (first ++ second))) (once_each rest)) place inside

-- after the numbers of a first list come those of a second that are new. A test may find them in any list that has the
-- second's numbers in their order
pub new_at : (first second others : List ℕ) (t : ℕ → Bool) (place k : ℕ) → once_each others ≡ once_each second →
    ((y : ℕ) → is_in y (once_each second) ≡ true → t y ≡ not (is_in y first)) → place ≡ length (once_each first) + k →
    slice_get (once_each (first ++ second)) place ≡ slice_get (filter t (once_each others)) k
new_at first second others t place k same agree is =
    let new = filter (λ y. not (is_in y first)) (once_each second) in
    ap (λ ws. slice_get ws place) (once_append first second)
    ∙ get_back (once_each first) new place k is
    ∙ ap (λ ws. slice_get ws k) (sym (filter_same t (λ y. not (is_in y first)) (once_each second) agree) ∙ ap (filter t) (sym same))

-- the first number of a list passes or not, and after it comes what passes and is another one
pub one_by_one : (t u : ℕ → Bool) (w : ℕ) (ws : List ℕ) → ((q : ℕ) → u q ≡ cond (nat_eq w q) false (t q)) →
    filter t (once_each (w ∷ ws)) ≡ cond (t w) (w ∷ filter u (once_each ws)) (filter u (once_each ws))
one_by_one t u w ws without =
    ap (λ os. cond (t w) (w ∷ os) os)
    (filter_twice t (λ y. not (y == w)) (once_each ws)
    ∙ filter_agree (λ y. not (y == w) && t y) u (λ y. let is = without y in apart y (y == w) refl ∙ sym is) (once_each ws))
  where
    apart : (y : ℕ) (b : Bool) → (y == w) ≡ b → (not (y == w) && t y) ≡ cond (nat_eq w y) false (t y)
    apart y true test = let other : (w == y) ≡ true = Prim.grind (arith, nat_tests, test) in ap (λ b. not b && t y) test ∙ sym (ap (λ b. cond b false (t y)) other)
    apart y false test = let other : (w == y) ≡ false = Prim.grind (arith, nat_tests, test) in ap (λ b. not b && t y) test ∙ sym (ap (λ b. cond b false (t y)) other)
