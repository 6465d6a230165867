-- Lists in which no number comes twice are as long as each other where they have the same numbers.
use Rattle.std.proofs.Common.{◌≡◌, ◌≢◌, ℕ, ◌==◌, ◌||◌, Bool, true, false, not, cond, List, [], ◌∷◌, length, filter, get_or, All, AllPairs, refl, ap, sym, ◌∙◌, arith}
use Rattle.std.proofs.lemmas.Bool.Decides.{nat_tests}
use Rattle.std.proofs.lemmas.List.{get_or_default}
use Rattle.std.proofs.lemmas.List.Elements.{All-nil, All-cons}
use Rattle.std.proofs.lemmas.List.Kept.{AllPairs-cons}
use Rattle.tally_core.specs.Walk.{once_each}
use Rattle.tally_core.proofs.Different.{different_few}
use Rattle.tally_core.proofs.Once.{is_in, in-at}

-- no number comes twice
abbrev pub AreApart : List ℕ → Type 0
AreApart [] = Unit {0}
AreApart (x ∷ xs) = (is_in x xs ≡ false) × AreApart xs

pub neither : (a b : Bool) → (a || b) ≡ false → (a ≡ false) × (b ≡ false)
neither true b h = absurd (let no : true ≡ false = h in cc)
neither false b h = (refl, h)

pub flip : (a b : ℕ) (t : Bool) → (a == b) ≡ t → (b == a) ≡ t
flip a b true h = Prim.grind (arith, nat_tests)
flip a b false h = Prim.grind (arith, nat_tests)

-- a number that is not there is none of those
others : (x : ℕ) (xs : List ℕ) → is_in x xs ≡ false → All (λ y. x ≢ y) xs
others x [] none = All-nil (λ y. x ≢ y)
others x (y ∷ xs) none =
    let parts = neither (x == y) (is_in x xs) none in
    let test : (x == y) ≡ false = parts.0 in
    All-cons (λ z. x ≢ z) y xs (λ same. let no : ⊥ = Prim.grind (arith, nat_tests, test, same) in no) (others x xs parts.1)

pairs : (xs : List ℕ) → AreApart xs → AllPairs (λ one other. one ≢ other) xs
pairs [] apart = λ i j d before inside. absurd (omega (arith, inside))
pairs (x ∷ xs) apart = AllPairs-cons (λ one other. one ≢ other) x xs (others x xs apart.0) (pairs xs apart.1)

-- the numbers of one list are those of the other
among : (xs ys : List ℕ) → ((x : ℕ) → is_in x xs ≡ is_in x ys) → All (λ x. is_in x ys ≡ true) xs
among xs ys same k d inside =
    let x = get_or xs k d in
    sym (same x) ∙ ap (λ y. is_in y xs) (get_or_default xs k d 0 inside) ∙ in-at xs k inside

pub same_length : (xs ys : List ℕ) → AreApart xs → AreApart ys → ((x : ℕ) → is_in x xs ≡ is_in x ys) → length xs ≡ length ys
same_length xs ys one other same =
    let less = different_few xs ys (pairs xs one) (among xs ys same) in
    let more = different_few ys xs (pairs ys other) (among ys xs (λ x. sym (same x))) in
    omega (arith, less, more)

-- ---- what a filter leaves

in_rest : (p : ℕ → Bool) (x : ℕ) (xs : List ℕ) → is_in x xs ≡ false → is_in x (filter p xs) ≡ false
in_rest p x [] none = refl
in_rest p x (y ∷ xs) none =
    let parts = neither (x == y) (is_in x xs) none in
    elim (p y) as (λ b. is_in x (cond b (y ∷ filter p xs) (filter p xs)) ≡ false) [
      | true ↦ ap (λ b. b || is_in x (filter p xs)) parts.0 ∙ in_rest p x xs parts.1
      | false ↦ in_rest p x xs parts.1
    ]

filter_apart : (p : ℕ → Bool) (xs : List ℕ) → AreApart xs → AreApart (filter p xs)
filter_apart p [] apart = tt
filter_apart p (x ∷ xs) apart =
    elim (p x) as (λ b. AreApart (cond b (x ∷ filter p xs) (filter p xs))) [
      | true ↦ (in_rest p x xs apart.0, filter_apart p xs apart.1)
      | false ↦ filter_apart p xs apart.1
    ]

not_left : (x : ℕ) (xs : List ℕ) → is_in x (filter (λ y. not (y == x)) xs) ≡ false
not_left x [] = refl
not_left x (y ∷ xs) =
    let rest = filter (λ z. not (z == x)) xs in
    elim (y == x) as (λ b. (y == x) ≡ b → is_in x (cond (not b) (y ∷ rest) rest) ≡ false) [
      | true ↦ λ _. not_left x xs
      | false ↦ λ other. ap (λ b. b || is_in x rest) (flip y x false other) ∙ not_left x xs
    ] refl

pub once_apart : (xs : List ℕ) → AreApart (once_each xs)
once_apart [] = tt
once_apart (x ∷ xs) = (not_left x (once_each xs), filter_apart (λ y. not (y == x)) (once_each xs) (once_apart xs))
