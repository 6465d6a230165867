-- Numbers counted in two ways: for each member of a list how often it is among the numbers, and how many of the numbers are
-- members.
use Rattle.std.proofs.Common.{◌≡◌, ℕ, ◌+◌, ◌<◌, ◌≤◌, ◌==◌, Bool, true, false, cond, List, [], ◌∷◌, length, filter, refl, ap, sym, ◌∙◌, arith, zero-add}
use Rattle.std.specs.Prelude.{sum_by, count_by}
use Rattle.std.specs.List.{flat_map}
use Rattle.std.proofs.lemmas.Bool.Decides.{nat_tests}
use Rattle.std.proofs.lemmas.List.Sums.{sum_by-cons, sum_by-append}

-- ---- sums
pub sum-none : {X : Type 0} (f : X → ℕ) (xs : List X) → ((x : X) → f x ≡ 0) → sum_by f xs ≡ 0
sum-none f [] none = refl
sum-none f (x ∷ xs) none =
    let first = none x in
    let rest = sum-none f xs none in
    sum_by-cons f x xs ∙ omega arith

pub sum-same : {X : Type 0} (f g : X → ℕ) (xs : List X) → ((x : X) → f x ≡ g x) → sum_by f xs ≡ sum_by g xs
sum-same f g [] same = refl
sum-same f g (x ∷ xs) same =
    let first = same x in
    let rest = sum-same f g xs same in
    let all = sum_by-cons g x xs in
    sum_by-cons f x xs ∙ omega arith

pub sum-ones : {X : Type 0} (f : X → ℕ) (xs : List X) → ((x : X) → f x ≡ 1) → sum_by f xs ≡ length xs
sum-ones f [] one = refl
sum-ones f (x ∷ xs) one =
    let first = one x in
    let rest = sum-ones f xs one in
    sum_by-cons f x xs ∙ omega arith

sum-both : {X : Type 0} (f g : X → ℕ) (xs : List X) → sum_by (λ x. f x + g x) xs ≡ sum_by f xs + sum_by g xs
sum-both f g [] = refl
sum-both f g (x ∷ xs) =
    let rest = sum-both f g xs in
    let of_f = sum_by-cons f x xs in
    let of_g = sum_by-cons g x xs in
    sum_by-cons (λ y. f y + g y) x xs ∙ omega arith

-- ---- counts
pub count-cons : {X : Type 0} (p : X → Bool) (x : X) (xs : List X) → count_by p (x ∷ xs) ≡ cond (p x) 1 0 + count_by p xs
count-cons p x xs = sum_by-cons (λ y. cond (p y) 1 0) x xs

pub count-flat_map : {X Y : Type 0} (p : Y → Bool) (f : X → List Y) (xs : List X) → count_by p (flat_map f xs) ≡ sum_by (λ x. count_by p (f x)) xs
count-flat_map p f [] = refl
count-flat_map p f (x ∷ xs) =
    sum_by-append (λ y. cond (p y) 1 0) (f x) (flat_map f xs)
    ∙ ap (λ n. count_by p (f x) + n) (count-flat_map p f xs)
    ∙ sym (sum_by-cons (λ y. count_by p (f y)) x xs)

-- ---- what is kept of the members
kept_first : (p : ℕ → Bool) (keep : Bool) (s : ℕ) (ss : List ℕ) → count_by p (cond keep (s ∷ ss) ss) ≡ cond keep (cond (p s) 1 0) 0 + count_by p ss
kept_first p true s ss = count-cons p s ss
kept_first p false s ss = sym (zero-add (count_by p ss))

kept_sum : (keep_it keep is : Bool) (n : ℕ) → (is ≡ true → keep_it ≡ keep) → cond keep_it (cond is 1 0) 0 + cond keep n 0 ≡ cond keep (cond is 1 0 + n) 0
kept_sum keep_it true true n same = rw (same refl) refl
kept_sum keep_it false true n same = rw (same refl) (omega arith)
kept_sum true true false n same = refl
kept_sum false true false n same = refl
kept_sum true false false n same = omega arith
kept_sum false false false n same = omega arith

tells : (x s : ℕ) → (x == s) ≡ true → s ≡ x
tells x s h = Prim.grind (arith, nat_tests)

-- how often a number is among the members that are kept
kept-count : (keep : ℕ → Bool) (x : ℕ) (members : List ℕ) → count_by (λ s. x == s) (filter keep members) ≡ cond (keep x) (count_by (λ s. x == s) members) 0
kept-count keep x [] = elim (keep x) as (λ b. ◌≡◌ {A = ℕ} 0 (cond b 0 0)) [ true ↦ refl | false ↦ refl ]
kept-count keep x (s ∷ members) =
    kept_first (λ y. x == y) (keep s) s (filter keep members)
    ∙ ap (λ n. cond (keep s) (cond (x == s) 1 0) 0 + n) (kept-count keep x members)
    ∙ kept_sum (keep s) (keep x) (x == s) (count_by (λ y. x == y) members) (λ is. ap keep (tells x s is))
    ∙ ap (λ n. cond (keep x) n 0) (sym (count-cons (λ y. x == y) s members))

-- each of the numbers is a member, once: then the members' counts add up to how many of the numbers are kept
pub counted_twice : (keep : ℕ → Bool) (members numbers : List ℕ) →
    ((x : ℕ) → 0 < count_by (λ c. c == x) numbers → count_by (λ s. x == s) members ≡ 1) →
    sum_by (λ s. count_by (λ c. c == s) numbers) (filter keep members) ≡ count_by keep numbers
counted_twice keep members [] once = sum-none (λ s. 0) (filter keep members) (λ s. refl)
counted_twice keep members (x ∷ numbers) once =
    let itself : (x == x) ≡ true = Prim.grind (arith, nat_tests) in
    let here : 0 < count_by (λ c. c == x) (x ∷ numbers) = rw (count-cons (λ c. c == x) x numbers, itself) (omega arith) in
    sum-same (λ s. count_by (λ c. c == s) (x ∷ numbers)) (λ s. cond (x == s) 1 0 + count_by (λ c. c == s) numbers) (filter keep members)
    (λ s. count-cons (λ c. c == s) x numbers)
    ∙ sum-both (λ s. cond (x == s) 1 0) (λ s. count_by (λ c. c == s) numbers) (filter keep members)
    ∙ ap (λ n. n + sum_by (λ s. count_by (λ c. c == s) numbers) (filter keep members))
    (kept-count keep x members ∙ ap (λ n. cond (keep x) n 0) (once x here))
    ∙ ap (λ n. cond (keep x) 1 0 + n)
    (counted_twice keep members numbers (λ y later. once y (rw (count-cons (λ c. c == y) x numbers) (omega (arith, later)))))
    ∙ sym (count-cons keep x numbers)

few_kept : (keep : Bool) (n : ℕ) → n ≤ 1 → cond keep n 0 ≤ cond keep 1 0
few_kept true n few = few
few_kept false n few = omega arith

-- no member is in the list twice: then the members' counts add up to at most how many of the numbers are kept
pub counted_within : (keep : ℕ → Bool) (members numbers : List ℕ) → ((x : ℕ) → count_by (λ s. x == s) members ≤ 1) →
    sum_by (λ s. count_by (λ c. c == s) numbers) (filter keep members) ≤ count_by keep numbers
counted_within keep members [] few = let none = sum-none (λ (s : ℕ). 0) (filter keep members) (λ s. refl) in omega arith
counted_within keep members (x ∷ numbers) few =
    let apart = sum-same (λ s. count_by (λ c. c == s) (x ∷ numbers)) (λ s. cond (x == s) 1 0 + count_by (λ c. c == s) numbers) (filter keep members)
    (λ s. count-cons (λ c. c == s) x numbers)
    ∙ sum-both (λ s. cond (x == s) 1 0) (λ s. count_by (λ c. c == s) numbers) (filter keep members) in
    let first = kept-count keep x members in
    let at_most = few_kept (keep x) (count_by (λ s. x == s) members) (few x) in
    let rest = counted_within keep members numbers few in
    let all = count-cons keep x numbers in
    omega arith
