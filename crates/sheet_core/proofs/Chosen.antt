-- The first of the sorted patterns are the choice.
use Rattle.std.proofs.Common.{◌≡◌, ◌≢◌, ℕ, zero, suc, ◌<◌, ◌⊎◌, inl, inr, Bool, true, false, cond, ◌==◌, List, [], ◌∷◌, map, length, take, get_or, All, None, sym, ap, ◌∙◌, subst, arith, length-take}
use Rattle.std.specs.List.{AllPairs, Contains, filter}
use Rattle.std.specs.List.Sorted.{IsStrictlyIncreasing, IsPermutation, IsSortedBy}
use Rattle.std.proofs.lemmas.Bool.{cases_lt}
use Rattle.std.proofs.lemmas.Bool.Decides.{Decides-eqb, nat_tests}
use Rattle.std.proofs.lemmas.List.{length-map, get_or-map, get_or-take, get_or_default}
use Rattle.std.proofs.lemmas.List.Elements.{All-contains_itself, All-filter, All-take, All-weaker, filter_passes}
use Rattle.std.proofs.lemmas.List.Kept.{AllPairs-filter, AllPairs-from_increasing}
use Rattle.std.proofs.lemmas.List.Sorted.{All-permutation, Contains-permutation, IsPermutation-map, sorted_far}
use Rattle.std.proofs.lemmas.Map.Keys.{IsDistinct-IsPermutation}
use Rattle.std.proofs.lemmas.Map.Made.{AllPairs-from_IsDistinct, IsDistinct-from_AllPairs}
use Rattle.shape_core.specs.declared.words.Kind.{Kind}
use Rattle.shape_core.specs.declared.words.Kind.TheVariants as kind
use Rattle.shape_dict.specs.declared.entries.Entry.{Entry}
use Rattle.sheet_core.specs.declared.orders.Order.{Order}
use Rattle.sheet_core.specs.Orders.{GoesBefore}
use Rattle.sheet_core.specs.Inner.Orders.{goes_before}
use Rattle.sheet_core.specs.Choice.{Qualifies, IsChoice}
use Rattle.sheet_core.specs.Inner.Choice.{qualifies}
use Rattle.sheet_core.proofs.Ranking.{ranks, GoesBefore-from}

contains_more : (b : Bool) (y x : Entry) (ys : List Entry) → Contains ys x → Contains (cond b (y ∷ ys) ys) x
contains_more true y x ys (k, h, is) = (suc k, omega arith, is)
contains_more false y x ys at = at

-- a filter keeps what passes
contains_filter : (p : Entry → Bool) (xs : List Entry) (x : Entry) → Contains xs x → p x ≡ true → Contains (filter p xs) x
contains_filter p [] x (k, h, is) passes = absurd (omega arith)
contains_filter p (y ∷ ys) x (zero, h, is) passes =
    subst (λ b. Contains (cond b (y ∷ filter p ys) (filter p ys)) x) (sym (ap p is ∙ passes)) (zero, omega arith, is)
contains_filter p (y ∷ ys) x (suc k, h, is) passes =
    contains_more (p y) y x (filter p ys) (contains_filter p ys x (k, omega arith, is) passes)

-- the test and what it tests
qualifies-from : (k : Kind) (least : ℕ) (e : Entry) → qualifies k least e ≡ true → Qualifies k least e
qualifies-from kind.Square least e h = record { of_kind = grind (arith, nat_tests); often = grind (arith, nat_tests) }
qualifies-from kind.Diamond least e h = record { of_kind = grind (arith, nat_tests); often = grind (arith, nat_tests) }

qualifies-true : (k : Kind) (least : ℕ) (e : Entry) → Qualifies k least e → qualifies k least e ≡ true
qualifies-true kind.Square least e h = let a = h.of_kind in let b = h.often in grind (arith, nat_tests)
qualifies-true kind.Diamond least e h = let a = h.of_kind in let b = h.often in grind (arith, nat_tests)

-- the entry of a word, as a default
entry_by : ℕ → Entry
entry_by word = record { shape = word; there = 0; played = 0; first = None }

flips : (x y : ℕ) → (x == y) ≡ (y == x)
flips x y = grind (arith, nat_tests)

-- words that rise are each below the later ones
words_rise : (entries : List Entry) → IsStrictlyIncreasing (map (λ entry. entry.shape) entries) → AllPairs (λ x y. x.shape < y.shape) entries
words_rise entries rises i j d before within =
    let shape = λ (e : Entry). e.shape in
    let pairs = AllPairs-from_increasing (map shape entries) rises i j d.shape before (rw length-map within) in
    let one = get_or-map shape entries i d d.shape (omega arith) in
    let other = get_or-map shape entries j d d.shape within in
    omega arith

-- words that differ are a list of distinct numbers
words_differ : (entries : List Entry) → AllPairs (λ x y. x.shape < y.shape) entries → AllPairs (λ (x y : ℕ). x ≢ y) (map (λ entry. entry.shape) entries)
words_differ entries rise i j d before within same =
    let shape = λ (e : Entry). e.shape in
    let inside : j < length entries = omega (arith, length-map entries shape) in
    let pair = rise i j (entry_by d) before inside in
    let one = get_or-map shape entries i (entry_by d) d (omega arith) in
    let other = get_or-map shape entries j (entry_by d) d inside in
    absurd (omega arith)

-- words that rise differ, and still do in another order
words_apart : (q : Entry → Bool) (entries sorted : List Entry) → IsStrictlyIncreasing (map (λ entry. entry.shape) entries) → IsPermutation (filter q entries) sorted →
    AllPairs (λ x y. x.shape ≢ y.shape) sorted
words_apart q entries sorted rises same i j d before within equal =
    let shape = λ (e : Entry). e.shape in
    let rise = AllPairs-filter (λ (x y : Entry). x.shape < y.shape) q entries (words_rise entries rises) in
    let distinct = IsDistinct-from_AllPairs {eq = λ (x y : ℕ). x == y} Decides-eqb (map shape (filter q entries)) (words_differ (filter q entries) rise) in
    let still = IsDistinct-IsPermutation (λ (x y : ℕ). x == y) flips (map shape (filter q entries)) (map shape sorted) (IsPermutation-map shape (filter q entries) sorted same) distinct in
    let apart = AllPairs-from_IsDistinct {eq = λ (x y : ℕ). x == y} Decides-eqb (map shape sorted) still in
    apart i j d.shape before (rw length-map within)
    (get_or-map shape sorted i d d.shape (omega arith) ∙ equal ∙ sym (get_or-map shape sorted j d d.shape within))

-- sorted patterns with different words are in strict order
strictly_ordered : (o : Order) (sorted : List Entry) → IsSortedBy (goes_before o) sorted → AllPairs (λ x y. x.shape ≢ y.shape) sorted → AllPairs (GoesBefore o) sorted
strictly_ordered o sorted up apart i j d before within =
    GoesBefore-from o (get_or sorted i d) (get_or sorted j d)
    (sorted_far (goes_before o) (ranks o) sorted up i j d (omega arith) within) (apart i j d before within)

first_of_ordered : (R : Entry → Entry → Type 0) (n : ℕ) (sorted : List Entry) → AllPairs R sorted → AllPairs R (take n sorted)
first_of_ordered R n sorted pairs i j d before within =
    let h = length-take n sorted in
    let one : get_or (take n sorted) i d ≡ get_or sorted i d = get_or-take n sorted i d (omega arith) in
    let other : get_or (take n sorted) j d ≡ get_or sorted j d = get_or-take n sorted j d (omega arith) in
    rw (one, other) (pairs i j d before (omega arith))

among : (n : ℕ) (sorted : List Entry) (e : Entry) (k : ℕ) → k < length sorted → get_or sorted k e ≡ e → k < n → Contains (take n sorted) e
among n sorted e k within is inside = (k, omega (arith, length-take n sorted), get_or-take n sorted k e inside ∙ is)

-- a pattern that is not among the first comes after them, and the first are as many as they may be
beyond : (o : Order) (n : ℕ) (sorted : List Entry) (e : Entry) → AllPairs (GoesBefore o) sorted → Contains sorted e →
    Contains (take n sorted) e ⊎ ((length (take n sorted) ≡ n) × All (λ (one : Entry). GoesBefore o one e) (take n sorted))
beyond o n sorted e pairs (k, within, is) = elim (cases_lt k n) [
  | inl inside ↦ inl (among n sorted e k within is inside)
  | inr after ↦ inr (
    omega (arith, length-take n sorted),
    λ i d h.
        let place : i < n = omega (arith, length-take n sorted) in
        let kept : get_or (take n sorted) i d ≡ get_or sorted i d = get_or-take n sorted i d place in
        let pair = pairs i k e (omega arith) within in
        rw kept (subst (GoesBefore o (get_or sorted i d)) is (subst (λ (x : Entry). GoesBefore o x (get_or sorted k e)) (get_or_default sorted i e d (omega arith)) pair)),
  )
]

pub choice_made : (o : Order) (k : Kind) (least most : ℕ) (entries sorted chosen : List Entry) → IsStrictlyIncreasing (map (λ entry. entry.shape) entries) →
    IsPermutation (filter (qualifies k least) entries) sorted → IsSortedBy (goes_before o) sorted → chosen ≡ take most sorted →
    IsChoice o k least most entries chosen
choice_made o k least most entries sorted chosen rises same up first =
    let q = qualifies k least in
    let pairs = strictly_ordered o sorted up (words_apart q entries sorted rises same) in
    subst (IsChoice o k least most entries) (sym first) (record {
      known = All-take (Contains entries) most sorted (All-permutation (Contains entries) (filter q entries) sorted same (All-filter q (Contains entries) entries (All-contains_itself entries)));
      qualified = All-take (Qualifies k least) most sorted (All-permutation (Qualifies k least) (filter q entries) sorted same
          (All-weaker (λ e. q e ≡ true) (Qualifies k least) (qualifies-from k least) (filter q entries) (filter_passes q entries)));
      ordered = first_of_ordered (GoesBefore o) most sorted pairs;
      few = omega (arith, length-take most sorted);
      others = λ e has passes. beyond o most sorted e pairs (Contains-permutation (filter q entries) sorted e same (contains_filter q entries e has (qualifies-true k least e passes)));
    })
