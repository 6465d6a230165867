-- Sums over a list, read by places: one element changed, one that has all.
use Rattle.std.proofs.Common.{◌≡◌, ◌≢◌, ℕ, zero, suc, ◌+◌, ◌≤◌, ◌==◌, true, cond, List, [], ◌∷◌, ◌++◌, set, sym, refl, ap, arith}
use Rattle.std.specs.Prelude.{sum_by}
use Rattle.std.proofs.lemmas.Bool.Decides.{nat_tests}
use Rattle.std.proofs.lemmas.List.Sums.{sum_by-cons, sum_by-append}
use mathlib.Core.Option.{some, some-ne-none, some-injective}
use lib.ListN.{get_elem?}
use Rattle.job_core.specs.Times.{times_of}

module _ {X : Type 0} (f : X → ℕ) where
  -- after a change of one
  pub sum_set : (xs : List X) (i : ℕ) (x y : X) → get_elem? xs i ≡ some x → sum_by f (set xs i y) + f x ≡ sum_by f xs + f y
  sum_set [] i x y e = absurd (some-ne-none x (sym e))
  sum_set (u ∷ xs) zero x y e =
      let same : f u ≡ f x = ap f (some-injective u x e) in
      let old : sum_by f (u ∷ xs) ≡ f u + sum_by f xs = sum_by-cons f u xs in
      let new : sum_by f (y ∷ xs) ≡ f y + sum_by f xs = sum_by-cons f y xs in omega (arith, same, old, new)
  sum_set (u ∷ xs) (suc i) x y e =
      let rest : sum_by f (set xs i y) + f x ≡ sum_by f xs + f y = sum_set xs i x y e in
      let old : sum_by f (u ∷ xs) ≡ f u + sum_by f xs = sum_by-cons f u xs in
      let new : sum_by f (u ∷ set xs i y) ≡ f u + sum_by f (set xs i y) = sum_by-cons f u (set xs i y) in omega (arith, rest, old, new)

  -- one is no more than all
  pub part_of : (xs : List X) (i : ℕ) (x : X) → get_elem? xs i ≡ some x → f x ≤ sum_by f xs
  part_of [] i x e = absurd (some-ne-none x (sym e))
  part_of (u ∷ xs) zero x e =
      let same : f u ≡ f x = ap f (some-injective u x e) in
      let all : sum_by f (u ∷ xs) ≡ f u + sum_by f xs = sum_by-cons f u xs in omega (arith, same, all)
  part_of (u ∷ xs) (suc i) x e =
      let rest : f x ≤ sum_by f xs = part_of xs i x e in
      let all : sum_by f (u ∷ xs) ≡ f u + sum_by f xs = sum_by-cons f u xs in omega (arith, rest, all)

  none : (xs : List X) → ((j : ℕ) (y : X) → get_elem? xs j ≡ some y → f y ≡ 0) → sum_by f xs ≡ 0
  none [] each = refl
  none (u ∷ xs) each =
      let first : f u ≡ 0 = each 0 u refl in
      let rest : sum_by f xs ≡ 0 = none xs (λ j y at. each (suc j) y at) in
      let all : sum_by f (u ∷ xs) ≡ f u + sum_by f xs = sum_by-cons f u xs in omega (arith, first, rest, all)

  -- where each other has nothing, one has all
  pub has_all : (xs : List X) (i : ℕ) (x : X) → get_elem? xs i ≡ some x → ((j : ℕ) (y : X) → j ≢ i → get_elem? xs j ≡ some y → f y ≡ 0) → sum_by f xs ≡ f x
  has_all [] i x e others = absurd (some-ne-none x (sym e))
  has_all (u ∷ xs) zero x e others =
      let same : f u ≡ f x = ap f (some-injective u x e) in
      let rest : sum_by f xs ≡ 0 = none xs (λ j y at. others (suc j) y (λ h. absurd (omega arith)) at) in
      let all : sum_by f (u ∷ xs) ≡ f u + sum_by f xs = sum_by-cons f u xs in omega (arith, same, rest, all)
  has_all (u ∷ xs) (suc i) x e others =
      let first : f u ≡ 0 = others 0 u (λ h. absurd (omega arith)) refl in
      let rest : sum_by f xs ≡ f x = has_all xs i x e (λ j y apart at. others (suc j) y (λ h. apart (omega arith)) at) in
      let all : sum_by f (u ∷ xs) ≡ f u + sum_by f xs = sum_by-cons f u xs in omega (arith, first, rest, all)

  -- where one has all, each other has nothing
  pub others_none : (xs : List X) (i j : ℕ) (x y : X) → get_elem? xs i ≡ some x → sum_by f xs ≡ f x → j ≢ i → get_elem? xs j ≡ some y → f y ≡ 0
  others_none [] i j x y e all apart at = absurd (some-ne-none x (sym e))
  others_none (u ∷ xs) zero zero x y e all apart at = absurd (apart refl)
  others_none (u ∷ xs) zero (suc j) x y e all apart at =
      let same : f u ≡ f x = ap f (some-injective u x e) in
      let here : sum_by f (u ∷ xs) ≡ f u + sum_by f xs = sum_by-cons f u xs in
      let part : f y ≤ sum_by f xs = part_of xs j y at in omega (arith, same, here, part, all)
  others_none (u ∷ xs) (suc i) zero x y e all apart at =
      let same : f u ≡ f y = ap f (some-injective u y at) in
      let here : sum_by f (u ∷ xs) ≡ f u + sum_by f xs = sum_by-cons f u xs in
      let part : f x ≤ sum_by f xs = part_of xs i x e in omega (arith, same, here, part, all)
  others_none (u ∷ xs) (suc i) (suc j) x y e all apart at =
      let here : sum_by f (u ∷ xs) ≡ f u + sum_by f xs = sum_by-cons f u xs in
      let part : f x ≤ sum_by f xs = part_of xs i x e in
      let rest : sum_by f xs ≡ f x = omega (arith, here, part, all) in others_none xs i j x y e rest (λ h. apart (ap suc h)) at

-- how often a game is in two lists, one after the other
pub times_append : (game : ℕ) (xs ys : List ℕ) → times_of (xs ++ ys) game ≡ times_of xs game + times_of ys game
times_append game xs ys = sum_by-append (λ (one : ℕ). cond (one == game) 1 0) xs ys

-- each game of a list is in it
pub some_time : (game : ℕ) (xs : List ℕ) → 1 ≤ times_of (game ∷ xs) game
some_time game xs =
    let test : (game == game) ≡ true = Prim.grind (arith, nat_tests) in
    let all : times_of (game ∷ xs) game ≡ cond (game == game) 1 0 + times_of xs game = sum_by-cons (λ (one : ℕ). cond (one == game) 1 0) game xs in
    let once : cond {A = ℕ} (game == game) 1 0 ≡ 1 = ap (λ b. cond b 1 0) test in omega (arith, all, once)

-- a list in which no game ever is
pub never : (xs : List ℕ) → ((game : ℕ) → times_of xs game ≡ 0) → xs ≡ []
never [] h = refl
never (x ∷ xs) h = let once : 1 ≤ times_of (x ∷ xs) x = some_time x xs in let no : times_of (x ∷ xs) x ≡ 0 = h x in absurd (omega (arith, once, no))
