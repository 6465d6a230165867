-- Lists of places that rise, how often a place is in them, and what all seats own together.
use Rattle.std.proofs.Common.{◌≡◌, ◌≢◌, ℕ, zero, suc, ◌+◌, ◌<◌, ◌≤◌, ◌==◌, nat_lt, Bool, true, false, List, [], ◌∷◌, ◌++◌, length, slice_set, refl, sym, ◌∙◌, ap, subst, inl, inr, arith, zero-add, if◌then◌else◌}
use Rattle.std.proofs.lemmas.Bool.{eqb-true, eq-eqb, ltb-true, ltb-false}
use Rattle.std.proofs.lemmas.Bool.Decides.{nat_tests}
use mathlib.Core.Option.{some, some-injective, some-ne-none}
use lib.ListN.{get_elem?}
use Rattle.slot_table.specs.declared.entries.Happened.{Happened}
use Rattle.slot_table.specs.declared.views.View.{View}
use Rattle.slot_table.specs.Places.{times, IsRising}
use Rattle.slot_table.specs.Places.{below, inserted, merged}
use Rattle.slot_table.specs.Rule.{times_owned}
use Rattle.slot_table.specs.Telling.{places_from}
use Rattle.probe_core.proofs.Placings.{three_ways}

-- how often a place is in a list

pub times-append : (k : ℕ) (xs ys : List ℕ) → times k (xs ++ ys) ≡ times k xs + times k ys
times-append k [] ys = omega arith
times-append k (x ∷ xs) ys = let e : times k (xs ++ ys) ≡ times k xs + times k ys = times-append k xs ys in omega (arith, e)

below_more : (k n : ℕ) → (if n == k then 1 else 0) + below k n ≡ below k (n + 1)
below_more k n = grind (arith, nat_tests)

pub times_places : (k n : ℕ) (added : List Happened) → times k (places_from n added) + below k n ≡ below k (n + length added)
times_places k n [] = let e : n ≡ n + 0 = omega arith in zero-add (below k n) ∙ ap (λ (m : ℕ). below k m) e
times_places k n (e ∷ added) =
    let rest : times k (places_from (n + 1) added) + below k (n + 1) ≡ below k (n + 1 + length added) = times_places k (n + 1) added
    in let one : (if n == k then 1 else 0) + below k n ≡ below k (n + 1) = below_more k n
    in let whole : below k (n + 1 + length added) ≡ below k (n + suc (length added)) = (let e : n + 1 + length added ≡ n + suc (length added) = omega arith in ap (λ (m : ℕ). below k m) e)
    in omega (arith, rest, one, whole)

inserted_by : (k x y : ℕ) (ys : List ℕ) (b : Bool) → nat_lt x y ≡ b → times k (inserted x ys) ≡ (if x == k then 1 else 0) + times k ys
    → times k (inserted x (y ∷ ys)) ≡ (if x == k then 1 else 0) + times k (y ∷ ys)
inserted_by k x y ys true is rest = rw is refl
inserted_by k x y ys false is rest = rw is (omega (arith, rest))

times-inserted : (k x : ℕ) (ys : List ℕ) → times k (inserted x ys) ≡ (if x == k then 1 else 0) + times k ys
times-inserted k x [] = refl
times-inserted k x (y ∷ ys) = inserted_by k x y ys (nat_lt x y) refl (times-inserted k x ys)

pub times-merged : (k : ℕ) (xs ys : List ℕ) → times k (merged xs ys) ≡ times k xs + times k ys
times-merged k [] ys = omega arith
times-merged k (x ∷ xs) ys =
    let one : times k (inserted x (merged xs ys)) ≡ (if x == k then 1 else 0) + times k (merged xs ys) = times-inserted k x (merged xs ys)
    in let rest : times k (merged xs ys) ≡ times k xs + times k ys = times-merged k xs ys
    in omega (arith, one, rest)

-- lists that rise

pub rising_le : (low : ℕ) (xs : List ℕ) (high : ℕ) → IsRising low xs high → low ≤ high
rising_le low [] high r = r
rising_le low (x ∷ xs) high r = let rest : x + 1 ≤ high = rising_le (x + 1) xs high r.1 in let h : low ≤ x = r.0 in omega (arith, h, rest)

pub rising_higher : (low : ℕ) (xs : List ℕ) (high higher : ℕ) → high ≤ higher → IsRising low xs high → IsRising low xs higher
rising_higher low [] high higher h r = let le : low ≤ high = r in omega (arith, h, le)
rising_higher low (x ∷ xs) high higher h r = (r.0, rising_higher (x + 1) xs high higher h r.1)

rising_places : (low n : ℕ) (added : List Happened) → low ≤ n → IsRising low (places_from n added) (n + length added)
rising_places low n [] h = let le : low ≤ n + 0 = omega (arith, h) in le
rising_places low n (e ∷ added) h =
    let rest : IsRising (n + 1) (places_from (n + 1) added) (n + 1 + length added) = rising_places (n + 1) (n + 1) added (omega arith)
    in (h, subst (λ (high : ℕ). IsRising (n + 1) (places_from (n + 1) added) high) (omega arith) rest)

pub rising_more : (low : ℕ) (xs : List ℕ) (high n : ℕ) (added : List Happened) → high ≤ n → IsRising low xs high → IsRising low (xs ++ places_from n added) (n + length added)
rising_more low [] high n added h r = let le : low ≤ high = r in rising_places low n added (omega (arith, h, le))
rising_more low (x ∷ xs) high n added h r = (r.0, rising_more (x + 1) xs high n added h r.1)

-- a place below all others is not in the list
below_all : (k low : ℕ) (xs : List ℕ) (high : ℕ) → k < low → IsRising low xs high → times k xs ≡ 0
below_all k low [] high h r = refl
below_all k low (x ∷ xs) high h r =
    let from : low ≤ x = r.0
    in let rest : times k xs ≡ 0 = below_all k (x + 1) xs high (omega (arith, h, from)) r.1
    in grind (arith, nat_tests, rest, from, h)

once_by : (k x : ℕ) (xs : List ℕ) (high : ℕ) → IsRising (x + 1) xs high → times k xs ≤ 1 → (b : Bool) → (x == k) ≡ b → times k (x ∷ xs) ≤ 1
once_by k x xs high r rest true is =
    let same : x ≡ k = eqb-true x k is
    in let none_more : times k xs ≡ 0 = below_all k (x + 1) xs high (omega (arith, same)) r
    in rw is (omega (arith, none_more))
once_by k x xs high r rest false is = rw is (omega (arith, rest))

pub rising_once : (k low : ℕ) (xs : List ℕ) (high : ℕ) → IsRising low xs high → times k xs ≤ 1
rising_once k low [] high r = omega arith
rising_once k low (x ∷ xs) high r = once_by k x xs high r.1 (rising_once k (x + 1) xs high r.1) (x == k) refl

rising_by : (low x y : ℕ) (ys : List ℕ) (high : ℕ) → low ≤ x → times x (y ∷ ys) ≡ 0 → IsRising low (y ∷ ys) high
    → (y < x → IsRising (y + 1) (inserted x ys) high) → (b : Bool) → nat_lt x y ≡ b → IsRising low (inserted x (y ∷ ys)) high
rising_by low x y ys high from none_of r rest true is =
    let before : x < y = ltb-true x y is
    in rw is (from, (omega (arith, before), r.1))
rising_by low x y ys high from none_of r rest false is =
    let behind : y ≤ x = ltb-false x y is
    in let apart : y ≢ x = λ e. (let here : (y == x) ≡ true = eq-eqb y x e in let one : 1 + times x ys ≡ 0 = rw here at none_of in omega (arith, one))
    in rw is (r.0, rest (omega (arith, behind, apart)))

rising-inserted : (low x : ℕ) (ys : List ℕ) (high : ℕ) → low ≤ x → x < high → times x ys ≡ 0 → IsRising low ys high → IsRising low (inserted x ys) high
rising-inserted low x [] high from to none_of r = (from, (let le : x + 1 ≤ high = omega (arith, to) in le))
rising-inserted low x (y ∷ ys) high from to none_of r =
    rising_by low x y ys high from none_of r
    (λ h. rising-inserted (y + 1) x ys high (omega (arith, h)) to (let e : times x (y ∷ ys) ≡ 0 = none_of in omega (arith, e)) r.1) (nat_lt x y) refl

-- both lists put together rise where no place is in them twice
pub rising-merged : (low : ℕ) (xs ys : List ℕ) (high : ℕ) → IsRising low xs high → IsRising 0 ys high → ((k : ℕ) → times k xs + times k ys ≤ 1) → IsRising 0 (merged xs ys) high
rising-merged low [] ys high r s apart = s
rising-merged low (x ∷ xs) ys high r s apart =
    let here : (x == x) ≡ true = eq-eqb x x refl
    in let once : times x (x ∷ xs) + times x ys ≤ 1 = apart x
    in let once' : 1 + times x xs + times x ys ≤ 1 = rw here at once
    in let both : times x (merged xs ys) ≡ times x xs + times x ys = times-merged x xs ys
    in let top : x + 1 ≤ high = rising_le (x + 1) xs high r.1
    in rising-inserted 0 x (merged xs ys) high (omega arith) (omega (arith, top)) (omega (arith, once', both))
    (rising-merged (x + 1) xs ys high r.1 s (λ k. let le : times k (x ∷ xs) + times k ys ≤ 1 = apart k in omega (arith, le)))

all_by : (low x : ℕ) (xs : List ℕ) (e : Happened) (seen : List Happened) → low ≡ x → xs ≡ places_from (low + 1) seen → (x ∷ xs) ≡ places_from low (e ∷ seen)
all_by low x xs e seen same rest = cc

-- places that rise, and of which none is left out, are all places
pub all_places : (low high : ℕ) (seen : List Happened) (mine : List ℕ) → high ≡ low + length seen → IsRising low mine high
    → ((k : ℕ) → low ≤ k → k < high → times k mine ≡ 1) → mine ≡ places_from low seen
all_places low high [] [] long rises once = refl
all_places low high [] (x ∷ xs) long rises once =
    let from : low ≤ x = rises.0 in let top : x + 1 ≤ high = rising_le (x + 1) xs high rises.1 in absurd (omega (arith, from, top, long))
all_places low high (e ∷ seen) [] long rises once = let none : 0 ≡ 1 = once low (omega arith) (omega (arith, long)) in absurd (omega (arith, none))
all_places low high (e ∷ seen) (x ∷ xs) long rises once =
    let from : low ≤ x = rises.0
    in let one : times low (x ∷ xs) ≡ 1 = once low (omega arith) (omega (arith, long))
    in elim (three_ways low x) [
      | inl before ↦ let none : times low (x ∷ xs) ≡ 0 = below_all low x (x ∷ xs) high before (omega arith, rises.1) in absurd (omega (arith, one, none))
      | inr (inl same) ↦
          all_by low x xs e seen same
          (all_places (low + 1) high seen xs (omega (arith, long)) (subst (λ (y : ℕ). IsRising (y + 1) xs high) (sym same) rises.1)
          (λ k h top. let is : times k (x ∷ xs) ≡ 1 = once k (omega (arith, h)) top in grind (arith, nat_tests, is, same, h)))
      | inr (inr behind) ↦ absurd (omega (arith, from, behind))
    ]

-- all seats together

module _ {O : Type 0} (k : ℕ) where
  pub owned_set : (views : List (View O)) (id : ℕ) (view new : View O) → get_elem? views id ≡ some view
      → times_owned k (slice_set views id new) + times k view.mine ≡ times_owned k views + times k new.mine
  owned_set [] id view new e = absurd (some-ne-none view (sym e))
  owned_set (v ∷ views) zero view new e =
      let same : times k v.mine ≡ times k view.mine = ap (λ (w : View O). times k w.mine) (some-injective v view e)
      in omega (arith, same)
  owned_set (v ∷ views) (suc id) view new e =
      let rest : times_owned k (slice_set views id new) + times k view.mine ≡ times_owned k views + times k new.mine = owned_set views id view new e
      in omega (arith, rest)

  pub owned_snoc : (views : List (View O)) (new : View O) → times_owned k (views ++ new ∷ []) ≡ times_owned k views + times k new.mine
  owned_snoc [] new = omega arith
  owned_snoc (v ∷ views) new =
      let rest : times_owned k (views ++ new ∷ []) ≡ times_owned k views + times k new.mine = owned_snoc views new
      in omega (arith, rest)

  owned_one : (views : List (View O)) (id : ℕ) (view : View O) → get_elem? views id ≡ some view → times k view.mine ≤ times_owned k views
  owned_one [] id view e = absurd (some-ne-none view (sym e))
  owned_one (v ∷ views) zero view e =
      let same : times k v.mine ≡ times k view.mine = ap (λ (u : View O). times k u.mine) (some-injective v view e)
      in omega (arith, same)
  owned_one (v ∷ views) (suc id) view e = let rest : times k view.mine ≤ times_owned k views = owned_one views id view e in omega (arith, rest)

  -- two seats own no place both
  pub owned_apart : (views : List (View O)) (id other : ℕ) (view w : View O) → id ≢ other → get_elem? views id ≡ some view → get_elem? views other ≡ some w
      → times k view.mine + times k w.mine ≤ times_owned k views
  owned_apart [] id other view w apart e f = absurd (some-ne-none view (sym e))
  owned_apart (v ∷ views) zero zero view w apart e f = absurd (apart refl)
  owned_apart (v ∷ views) zero (suc other) view w apart e f =
      let same : times k v.mine ≡ times k view.mine = ap (λ (u : View O). times k u.mine) (some-injective v view e)
      in let rest : times k w.mine ≤ times_owned k views = owned_one views other w f
      in omega (arith, same, rest)
  owned_apart (v ∷ views) (suc id) zero view w apart e f =
      let same : times k v.mine ≡ times k w.mine = ap (λ (u : View O). times k u.mine) (some-injective v w f)
      in let rest : times k view.mine ≤ times_owned k views = owned_one views id view e
      in omega (arith, same, rest)
  owned_apart (v ∷ views) (suc id) (suc other) view w apart e f =
      let rest : times k view.mine + times k w.mine ≤ times_owned k views = owned_apart views id other view w (λ same. apart (ap suc same)) e f
      in omega (arith, rest)

pub below_one : (k n : ℕ) → below k n ≤ 1
below_one k n = grind (arith, nat_tests)

pub one_below : (k n : ℕ) → k < n → below k n ≡ 1
one_below k n h = grind (arith, nat_tests, h)
