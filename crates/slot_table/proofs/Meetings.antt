-- The calls of a pass that two passes were made of: those of both, and no others.
use Rattle.std.proofs.Common.{◌≡◌, ◌↔◌, ◌⊎◌, ℕ, ◌+◌, ◌<◌, ◌==◌, Bool, true, false, List, [], ◌∷◌, Option, Some, None, refl, sym, ◌∙◌, ap, subst, arith, inl, inr, Contains, get_or}
use Rattle.std.specs.Prelude.{filter_map, slice_get}
use Rattle.std.specs.List.{AllByRecursion, cons_option}
use Rattle.std.proofs.lemmas.Bool.{eqb-true, eq-eqb, cases_eq}
use Rattle.std.proofs.lemmas.List.Elements.{recursion_from_All, All-from_recursion, All-contains, All-contains_itself, Contains-get_or}
use Rattle.slot_table.specs.declared.entries.Happened.{Happened}
use Rattle.slot_table.specs.Places.{times}
use Rattle.slot_table.specs.Passes.{Numbers, Known, IsPassOf, Met, calls_of}
use Rattle.slot_table.proofs.Later.{calls_stay}

-- what holds of each thing that was found holds of each that is found at one of the places, and the other way round

times_here : (x : ℕ) (ks : List ℕ) → 0 < times x (x ∷ ks)
times_here x ks = let same : (x == x) ≡ true = eq-eqb x x refl in rw same (omega arith)

times_more : (k x : ℕ) (ks : List ℕ) → 0 < times k ks → 0 < times k (x ∷ ks)
times_more k x ks low = omega (arith, low)

module _ {X : Type 0} (P : X → Type 0) where
  rest_of : (o : Option X) (xs : List X) → AllByRecursion P (cons_option o xs) → AllByRecursion P xs
  rest_of None xs all = all
  rest_of (Some x) xs all = all.1

  first_of : (o : Option X) (xs : List X) (e : X) → o ≡ Some e → AllByRecursion P (cons_option o xs) → P e
  first_of o xs e is all = (subst (λ (p : Option X). AllByRecursion P (cons_option p xs)) is all).0

  both_of : (o : Option X) (xs : List X) → ((e : X) → o ≡ Some e → P e) → AllByRecursion P xs → AllByRecursion P (cons_option o xs)
  both_of None xs one all = all
  both_of (Some x) xs one all = (one x refl, all)

  at_place_by : (f : ℕ → Option X) (x : ℕ) (ks : List ℕ) (k : ℕ) (e : X) → (0 < times k ks → P e) → AllByRecursion P (cons_option (f x) (filter_map f ks))
      → 0 < times k (x ∷ ks) → f k ≡ Some e → (b : Bool) → (x == k) ≡ b → P e
  at_place_by f x ks k e rest all there is true same = first_of (f x) (filter_map f ks) e (ap f (eqb-true x k same) ∙ is) all
  at_place_by f x ks k e rest all there is false other =
      let more : times k (x ∷ ks) ≡ 0 + times k ks = rw other refl in rest (omega (arith, more, there))

  at_place : (f : ℕ → Option X) (ks : List ℕ) (k : ℕ) (e : X) → AllByRecursion P (filter_map f ks) → 0 < times k ks → f k ≡ Some e → P e
  at_place f [] k e all there is = absurd (omega (arith, there))
  at_place f (x ∷ ks) k e all there is =
      at_place_by f x ks k e (λ low. at_place f ks k e (rest_of (f x) (filter_map f ks) all) low is) all there is (x == k) refl

  from_places : (f : ℕ → Option X) (ks : List ℕ) → ((k : ℕ) (e : X) → 0 < times k ks → f k ≡ Some e → P e) → AllByRecursion P (filter_map f ks)
  from_places f [] h = tt
  from_places f (x ∷ ks) h =
      both_of (f x) (filter_map f ks) (λ e is. h x e (times_here x ks) is) (from_places f ks (λ k e low is. h k e (times_more k x ks low) is))

-- what was found at some places was found where these are among others
found_more : {X : Type 0} (f : ℕ → Option X) (ks more : List ℕ) (e : X) → ((k : ℕ) → 0 < times k ks → 0 < times k more) → Contains (filter_map f ks) e
    → Contains (filter_map f more) e
found_more f ks more e among there =
    let P = Contains (filter_map f more)
    in let all : AllByRecursion P (filter_map f more) = recursion_from_All P (filter_map f more) (All-contains_itself (filter_map f more))
    in All-contains P (filter_map f ks) e (All-from_recursion P (filter_map f ks) (from_places P f ks (λ k e low is. at_place P f more k e all (among k low) is))) there

module _ {O : Type 0} (numbers : Numbers O) (one other both : Known O) (of_one : IsPassOf numbers one) (of_other : IsPassOf numbers other) (met : Met numbers.slots one other both) where
  -- at its places each of them has the same calls in the history of both
  calls_of_one : filter_map (slice_get both.seen) one.mine ≡ calls_of one
  calls_of_one = ap (λ (t : List Happened). filter_map (slice_get t) one.mine) met.after_one.1 ∙ calls_stay one.seen met.after_one.0 0 one.mine of_one.rises

  calls_of_other : filter_map (slice_get both.seen) other.mine ≡ calls_of other
  calls_of_other = ap (λ (t : List Happened). filter_map (slice_get t) other.mine) met.after_other.1 ∙ calls_stay other.seen met.after_other.0 0 other.mine of_other.rises

  -- a call of one of them is one of the one pass
  from_one : (e : Happened) → Contains (calls_of one) e → Contains (calls_of both) e
  from_one e there =
      found_more (slice_get both.seen) one.mine both.mine e (λ k low. let sum = met.mine k in omega (arith, sum, low))
      (subst (λ (calls : List Happened). Contains calls e) (sym calls_of_one) there)

  from_other : (e : Happened) → Contains (calls_of other) e → Contains (calls_of both) e
  from_other e there =
      found_more (slice_get both.seen) other.mine both.mine e (λ k low. let sum = met.mine k in omega (arith, sum, low))
      (subst (λ (calls : List Happened). Contains calls e) (sym calls_of_other) there)

  -- a call of the one pass is one of either
  abbrev Either : Happened → Type 0
  Either e = Contains (calls_of one) e ⊎ Contains (calls_of other) e

  from_both : (e : Happened) → Contains (calls_of both) e → Either e
  from_both e there =
      let f : ℕ → Option Happened = slice_get both.seen
      in let each : (ks : List ℕ) (calls : List Happened) → filter_map f ks ≡ calls → ((e : Happened) → Contains calls e → Either e) → AllByRecursion Either (filter_map f ks) =
      λ ks calls same h. subst (AllByRecursion Either) (sym same) (recursion_from_All Either calls (λ k d low. h (get_or calls k d) (Contains-get_or calls k d low)))
      in let these = each one.mine (calls_of one) calls_of_one (λ e there. inl there)
      in let those = each other.mine (calls_of other) calls_of_other (λ e there. inr there)
      in All-contains Either (calls_of both) e (All-from_recursion Either (calls_of both) (from_places Either f both.mine (λ k e low is.
      let sum = met.mine k
      in elim (cases_eq (times k one.mine) 0) [
        | inl none ↦ at_place Either f other.mine k e those (omega (arith, sum, low, none)) is
        | inr some ↦ at_place Either f one.mine k e these (omega (arith, some)) is
      ]))) there

-- the calls of a pass that two were made of
pub met_calls : {O : Type 0} (numbers : Numbers O) (one other both : Known O) (happened : Happened) → IsPassOf numbers one → IsPassOf numbers other → Met numbers.slots one other both
    → Contains (calls_of both) happened ↔ (Contains (calls_of one) happened ⊎ Contains (calls_of other) happened)
met_calls numbers one other both happened of_one of_other met = (
  from_both numbers one other both of_one of_other met happened,
  λ either. elim either [
    | inl there ↦ from_one numbers one other both of_one of_other met happened there
    | inr there ↦ from_other numbers one other both of_one of_other met happened there
  ],
)
