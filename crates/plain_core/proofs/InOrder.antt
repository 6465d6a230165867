-- The entries of a map, once they are put in the order of their patterns' words.
use Rattle.std.proofs.Common.{◌≡◌, ℕ, ◌<◌, nat_eq, true, cond, List, [], ◌∷◌, map, length, get_or, Option, Some, None, IfSome, refl, ap, sym, subst, ◌∙◌, arith, Contains}
use Rattle.std.specs.Cmp.{nat_eq_equiv}
use Rattle.std.specs.List.{IsDistinct}
use Rattle.std.specs.List.Sorted.{IsPermutation, IsNonDecreasingBy, IsStrictlyIncreasing}
use Rattle.std.specs.Map.{keys_of, lookup}
use Rattle.std.proofs.Math.ListN.{get_or-map}
use Rattle.std.proofs.lemmas.Bool.Decides.{nat_tests}
use Rattle.std.proofs.lemmas.List.{length-map}
use Rattle.std.proofs.lemmas.List.Sorted.{IsPermutation-sym, IsPermutation-map, Contains-permutation}
use Rattle.std.proofs.lemmas.Map.Keys.{IsDistinct-IsPermutation, IsStrictlyIncreasing-from_distinct}
use Rattle.std.proofs.lemmas.Map.Views.{IfSome-lookup, lookup-from_Contains}
use Rattle.shape_dict.specs.declared.entries.Entry.{Entry}
use Rattle.shape_dict.specs.Contents.{entry_of}
use Rattle.plain_core.specs.Inner.Count.{Count}
use Rattle.plain_core.specs.Inner.Entries.{entry_of_pair, entered}
use Rattle.tally_core.specs.Inner.Entries.{shapes_of}
use Rattle.plain_core.proofs.Entered.{shapes_of-pairs}
use Rattle.plain_core.proofs.Lookups.{entry_of-pairs}

test_tells : (a b : ℕ) → nat_eq a b ≡ true → a ≡ b
test_tells a b h = Prim.grind (arith, nat_tests)

test_flips : (a b : ℕ) → nat_eq a b ≡ nat_eq b a
test_flips a b = Prim.grind (arith, nat_tests)

-- ---- entries by their patterns
tagged : List Entry → List (ℕ × Entry)
tagged entries = map (λ (e : Entry). (e.shape, e)) entries

keys_of-tagged : (entries : List Entry) → keys_of (tagged entries) ≡ shapes_of entries
unfolding tagged
keys_of-tagged [] = refl
keys_of-tagged (e ∷ entries) = ap (λ shapes. e.shape ∷ shapes) (keys_of-tagged entries)

entry_of-tagged : (shape : ℕ) (entries : List Entry) → entry_of shape entries ≡ lookup (nat_eq shape) (tagged entries)
unfolding tagged
entry_of-tagged shape [] = refl
entry_of-tagged shape (e ∷ entries) =
    ap (λ b. cond b (Some e) (entry_of shape entries)) (test_flips e.shape shape) ∙ ap (cond (nat_eq shape e.shape) (Some e)) (entry_of-tagged shape entries)

-- ---- the same pairs in another order
module _ (few more : List (ℕ × Entry)) (same : IsPermutation few more) (once : IsDistinct nat_eq (keys_of few)) (key : ℕ) where
  once_still : IsDistinct nat_eq (keys_of more)
  once_still = IsDistinct-IsPermutation nat_eq test_flips (keys_of few) (keys_of more) (IsPermutation-map (λ (p : ℕ × Entry). p.0) few more same) once

  found_still : (e : Entry) → lookup (nat_eq key) few ≡ Some e → lookup (nat_eq key) more ≡ Some e
  found_still e is =
      lookup-from_Contains nat_eq_equiv key e more once_still
      (Contains-permutation few more (key, e) same (subst (λ o. IfSome o (λ v. Contains few (key, v))) is (IfSome-lookup test_tells key few)))

  found_before : (found : Option Entry) → lookup (nat_eq key) more ≡ found → lookup (nat_eq key) few ≡ found
  found_before (Some e) is =
      lookup-from_Contains nat_eq_equiv key e few once
      (Contains-permutation more few (key, e) (IsPermutation-sym few more same) (subst (λ o. IfSome o (λ v. Contains more (key, v))) is (IfSome-lookup test_tells key more)))
  found_before None is =
      elim (lookup (nat_eq key) few) as (λ o. lookup (nat_eq key) few ≡ o → o ≡ None) [
        | Some e ↦ λ there. absurd (let both = sym is ∙ found_still e there in cc)
        | None ↦ λ none. refl
      ] refl

  same_lookup : lookup (nat_eq key) more ≡ lookup (nat_eq key) few
  same_lookup = sym (found_before (lookup (nat_eq key) more) refl)

-- ---- the entries of a map
module _ (pairs : List (ℕ × Count)) (listed sorted : List Entry) (all : listed ≡ map entry_of_pair pairs) (once : IsDistinct nat_eq (keys_of pairs))
    (same : IsPermutation listed sorted) where
  listed_once : IsDistinct nat_eq (shapes_of listed)
  listed_once = subst (IsDistinct nat_eq) (sym (ap shapes_of all ∙ shapes_of-pairs pairs)) once

  pub sorted_rises : IsNonDecreasingBy (λ (e : Entry). e.shape) sorted → IsStrictlyIncreasing (shapes_of sorted)
  sorted_rises up =
      let long = length-map sorted (λ (e : Entry). e.shape) in
      IsStrictlyIncreasing-from_distinct (shapes_of sorted)
      (λ i j k order below.
      let d : Entry = record { shape = k; there = 0; played = 0; first = None } in
      let one : get_or (shapes_of sorted) i k ≡ (get_or sorted i d).shape = get_or-map (λ (e : Entry). e.shape) sorted i d in
      let two : get_or (shapes_of sorted) j k ≡ (get_or sorted j d).shape = get_or-map (λ (e : Entry). e.shape) sorted j d in
      let rises = up i j d order (let l : j < length sorted = omega arith in l) in
      omega arith)
      (IsDistinct-IsPermutation nat_eq test_flips (shapes_of listed) (shapes_of sorted) (IsPermutation-map (λ (e : Entry). e.shape) listed sorted same) listed_once)

  pub sorted_entered : (shape : ℕ) → entry_of shape sorted ≡ entered shape (lookup (nat_eq shape) pairs)
  unfolding tagged
  sorted_entered shape =
      entry_of-tagged shape sorted
      ∙ same_lookup (tagged listed) (tagged sorted) (IsPermutation-map (λ (e : Entry). (e.shape, e)) listed sorted same) (subst (IsDistinct nat_eq) (sym (keys_of-tagged listed)) listed_once) shape
      ∙ sym (entry_of-tagged shape listed) ∙ ap (entry_of shape) all ∙ entry_of-pairs shape pairs
