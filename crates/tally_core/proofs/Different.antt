-- Different patterns of games are no more than those that were met.
use Rattle.std.proofs.Common.{◌≡◌, ◌≢◌, ℕ, suc, ◌<◌, ◌≤◌, ◌==◌, ◌||◌, Bool, true, false, not, cond, List, [], ◌∷◌, length, filter, get_or, All, AllPairs, refl, ap, sym, ◌∙◌, arith}
use Rattle.std.proofs.lemmas.Bool.Decides.{nat_tests}
use Rattle.std.proofs.lemmas.List.Elements.{All-head, All-tail}
use Rattle.tally_core.proofs.Once.{is_in}

-- without a number that is in it a list is shorter
without : ℕ → List ℕ → List ℕ
without x ys = filter (λ y. not (y == x)) ys

no_longer : (x : ℕ) (ys : List ℕ) → length (without x ys) ≤ length ys
unfolding without
no_longer x [] = omega arith
no_longer x (y ∷ ys) =
    let rest = no_longer x ys in
    elim (y == x) as (λ b. length (cond (not b) (y ∷ filter (λ y. not (y == x)) ys) (filter (λ y. not (y == x)) ys)) ≤ suc (length ys)) [
      | true ↦ omega (arith, rest)
      | false ↦ omega (arith, rest)
    ]

flip : (a b : ℕ) (t : Bool) → (a == b) ≡ t → (b == a) ≡ t
flip a b true h = Prim.grind (arith, nat_tests)
flip a b false h = Prim.grind (arith, nat_tests)

shorter : (x : ℕ) (ys : List ℕ) → is_in x ys ≡ true → length (without x ys) < length ys
unfolding without
shorter x [] h = absurd (let no : false ≡ true = h in cc)
shorter x (y ∷ ys) h =
    elim (x == y) as (λ b. (x == y) ≡ b → (b || is_in x ys) ≡ true → length (cond (not (y == x)) (y ∷ filter (λ y. not (y == x)) ys) (filter (λ y. not (y == x)) ys)) < suc (length ys)) [
      | true ↦ λ same _. rw (flip x y true same) (let rest = no_longer x ys in omega (arith, rest))
      | false ↦ λ apart within. rw (flip x y false apart) (let rest = shorter x ys within in omega (arith, rest))
    ] refl h

-- what is in a list and is another number stays in it
stays_in : (x z : ℕ) (ys : List ℕ) → x ≢ z → is_in z ys ≡ true → is_in z (without x ys) ≡ true
unfolding without
stays_in x z [] apart h = h
stays_in x z (y ∷ ys) apart h =
    elim (y == x) as (λ b. (y == x) ≡ b → is_in z (cond (not b) (y ∷ filter (λ y. not (y == x)) ys) (filter (λ y. not (y == x)) ys)) ≡ true) [
      | true ↦ λ same. stays_in x z ys apart (let other : (z == y) ≡ false = Prim.grind (arith, nat_tests, same, apart) in ap (λ b. b || is_in z ys) (sym other) ∙ h)
      | false ↦ λ _.
          elim (z == y) as (λ b. (b || is_in z ys) ≡ true → (b || is_in z (filter (λ y. not (y == x)) ys)) ≡ true) [
            | true ↦ λ _. refl
            | false ↦ λ within. stays_in x z ys apart within
          ] h
    ] refl

-- different numbers that are all in a list are no more than it has
pub different_few : (xs ys : List ℕ) → AllPairs (λ one other. one ≢ other) xs → All (λ x. is_in x ys ≡ true) xs → length xs ≤ length ys
different_few [] ys different among = omega arith
different_few (x ∷ xs) ys different among =
    let among-it : ℕ → Type 0 = λ z. is_in z ys ≡ true in
    let less = shorter x ys (All-head among-it x xs among) in
    let rest = different_few xs (without x ys) (λ i j d before inside. different (suc i) (suc j) d (omega (arith, before)) (omega (arith, inside)))
    (λ k d inside. stays_in x (get_or xs k d) ys (different 0 (suc k) d (omega arith) (omega (arith, inside))) (All-tail among-it x xs among k d inside)) in
    omega (arith, less, rest)
