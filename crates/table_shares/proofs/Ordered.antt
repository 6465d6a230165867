-- The entries of totals, and those entries put in order: the dictionary of shares.
use Rattle.std.proofs.Common.{◌≡◌, ◌∙◌, ⊎_elim, ℕ, suc, ◌+◌, ◌<◌, ◌≤◌, ◌==◌, nat_lt, nat_eq, Bool, true, false, cond, List, [], ◌∷◌, ◌++◌, take, drop, subst, get_or, Option, Some, None, refl, ap, sym, arith, All, Contains}
use Rattle.table_shares.proofs.Common.{AllByRecursion, filter, IsPermutation, IsNonDecreasingBy, IsStrictlyIncreasing, nat_tests, take-append-drop, length-map, Contains-push, Contains-append_left, Contains-append_right, recursion_from_All, sum_by-cons, there_at, played_at, first_at, Entry, entry_of, IsShape, Row, there_of, played_of, first_of, IsTotal, AreEntriesOf, AreListed, IsListed, cases_eq, cases_lt, All-push, gathered_entry, AreOneEach, Kinds, Held, IsShare, all_rows, all_games, all_moves, AreWithin, Covers, IsGathered, counts_diamonds}
use Rattle.table_shares.specs.Rows.{AreBelow}
use Rattle.std.proofs.Math.ListN.{get_or-map}
use Rattle.std.proofs.lemmas.List.Elements.{filter-append}
use Rattle.std.proofs.Math.Seq.{drop-cons}
use Rattle.std.proofs.lemmas.List.Quantifiers.{all_pairs_push}
use Rattle.std.proofs.lemmas.List.Sorted.{All-permutation, Contains-permutation, IsPermutation-map}
use Rattle.std.proofs.lemmas.Map.Keys.{IsDistinct-IsPermutation, IsDistinct-from_apart, IsStrictlyIncreasing-from_distinct}
use Rattle.tally_core.specs.Inner.Entries.{shapes_of}
use Rattle.tally_core.proofs.PlayedPatterns.{CanonicalStays, AroundStays}
use Rattle.gather_core.proofs.Gathered.{gathered_from}
use Rattle.table_shares.proofs.Totalled.{nothing_passes, has_sums}

-- ---- entries of totals
-- an entry that counts something
abbrev pub counts : Entry → Bool
counts e = nat_lt 0 e.there

-- what passes a test is kept by it
pub still_contains : (entries : List Entry) (e : Entry) → Contains entries e → counts e ≡ true → Contains (filter counts entries) e
still_contains entries e (place, low, is) passes =
    let rest = drop (suc place) entries in
    let whole : take place entries ++ e ∷ rest ≡ entries = rw (drop-cons entries place e low, is) at (take-append-drop place entries) in
    subst (λ (es : List Entry). Contains (filter counts es) e) whole
    (rw (filter-append counts (take place entries) (e ∷ rest), passes)
    (Contains-append_right (filter counts (take place entries)) (e ∷ filter counts rest) e (Contains-append_left (e ∷ []) (filter counts rest) e (Contains-push [] e))))

pub there_some : (rows : List Row) (shape : ℕ) → 0 < there_of rows shape → (row : Row) × Contains rows row × (row.shape ≡ shape)
there_some [] shape some = absurd (omega arith)
there_some (row ∷ rows) shape some =
    let parts = sum_by-cons (λ (r : Row). cond (r.shape == shape) r.there 0) row rows in
    elim (row.shape == shape) as (λ b. (row.shape == shape) ≡ b → (found : Row) × Contains (row ∷ rows) found × (found.shape ≡ shape)) [
      | true ↦ λ same. (row, Contains-append_left (row ∷ []) rows row (Contains-push [] row), Prim.grind (arith, nat_tests))
      | false ↦ λ other.
          let deep = there_some rows shape (Prim.grind (arith)) in
          (deep.0, Contains-append_right (row ∷ []) rows deep.0 deep.1, deep.2)
    ] refl

-- what a total counts of its pattern
pub total_gathered : (rows : List Row) (number : ℕ) (e : Entry) → AreOneEach rows → IsTotal rows number e → counts e ≡ true → gathered_entry rows e.shape ≡ Some e
total_gathered rows number e each h some =
    let like : h.one.shape ≡ e.shape = h.alike h.one h.among h.numbered in
    let sums = has_sums rows h.one each h.among in
    let there : there_of rows e.shape ≡ e.there = ap (there_of rows) (sym like) ∙ sym sums.0 ∙ ap (there_at rows) h.numbered ∙ sym h.there in
    let played : played_of rows e.shape ≡ e.played = ap (played_of rows) (sym like) ∙ sym sums.1 ∙ ap (played_at rows) h.numbered ∙ sym h.played in
    let first : first_of rows e.shape ≡ e.first = ap (first_of rows) (sym like) ∙ sym sums.2 ∙ ap (first_at rows) h.numbered ∙ sym h.first in
    Prim.grind (arith, nat_tests)

-- totals of one pattern are of one number
pub same_number : (rows : List Row) → AreOneEach rows → {i j : ℕ} {one other : Entry} → IsTotal rows i one → IsTotal rows j other → one.shape ≡ other.shape → i ≡ j
same_number rows each h k same =
    let alike = h.alike h.one h.among h.numbered ∙ same ∙ sym (k.alike k.one k.among k.numbered) in
    sym h.numbered ∙ (each h.one k.one h.among k.among).1 alike ∙ k.numbered

-- ---- the entries of the numbers below one
module _ (rows : List Row) (high : ℕ) (entries : List Entry) (h : AreListed rows high entries) where
  higher : All (IsListed rows (high + 1)) entries
  higher k d low = (let one = h.each k d low in record { number = one.number; low = omega (arith, one.low); total = one.total; some = one.some })

  -- the pattern of the next number was not there
  pub listed_none : there_at rows high ≡ 0 → AreListed rows (high + 1) entries
  listed_none none = record {
    each = higher;
    shapes = h.shapes;
    every = λ number low some. h.every number (Prim.grind (arith, cases_eq number high)) some;
    apart = h.apart;
  }

  -- it was
  pub listed_more : (e : Entry) → IsTotal rows high e → 0 < e.there → IsShape e → AreOneEach rows → AreListed rows (high + 1) (entries ++ e ∷ [])
  listed_more e total some shape each = record {
    each = All-push (IsListed rows (high + 1)) entries e higher (record { number = high; low = omega arith; total = total; some = some });
    shapes = All-push IsShape entries e h.shapes shape;
    every = λ number low there. ⊎_elim
        (λ (before : number < high).
        let found = h.every number before there in
        (found.0, Contains-append_left entries (e ∷ []) found.0 found.1, found.2))
        (λ (last : high ≤ number).
        let same : high ≡ number = omega (arith, low, last) in
        (e, Contains-push entries e, subst (λ n. IsTotal rows n e) same total))
        (cases_lt number high);
    apart = all_pairs_push (λ one other. one.shape ≡ other.shape → ⊥) entries e h.apart (λ k d low same.
        let one = h.each k d low in
        omega (arith, one.low, same_number rows each one.total total same));
  }

  -- those of all numbers
  pub entries_listed : AreBelow high rows → AreOneEach rows → AreEntriesOf rows entries
  entries_listed below each = record {
    each = λ k d low.
        let one = h.each k d low in
        total_gathered rows one.number (get_or entries k d) each one.total (Prim.grind (arith, nat_tests, one.some));
    shapes = h.shapes;
    every = λ shape some.
        let row = there_some rows shape some in
        let there = (has_sums rows row.0 each row.1).0 ∙ ap (there_of rows) row.2 in
        let found = h.every row.0.number (below row.0 row.1) (omega (arith, there, some)) in
        (found.0, found.1, sym (found.2.alike row.0 row.1 refl) ∙ row.2);
    apart = h.apart;
  }

-- ---- in order
found_entry : (rows : List Row) (shape : ℕ) (entries : List Entry) (e : Entry) → AllByRecursion (λ (x : Entry). gathered_entry rows x.shape ≡ Some x) entries →
    entry_of shape entries ≡ Some e → gathered_entry rows shape ≡ Some e
found_entry rows shape [] e all is = absurd cc
found_entry rows shape (x ∷ entries) e all is =
    let here = λ (same : x.shape ≡ shape). sym (ap (gathered_entry rows) same) ∙ all.0 in
    Prim.grind (arith, nat_tests, here, found_entry rows shape entries e all.1)

module _ (rows : List Row) (entries sorted : List Entry) (h : AreEntriesOf rows entries) (same : IsPermutation entries sorted) where
  pub sorted_rises : IsNonDecreasingBy (λ (e : Entry). e.shape) sorted → IsStrictlyIncreasing (shapes_of sorted)
  sorted_rises up =
      let shape = λ (e : Entry). e.shape in
      let d = λ (k : ℕ). (let e : Entry = record { shape = k; there = 0; played = 0; first = None } in e) in
      let read = λ (es : List Entry) (i k : ℕ). get_or-map shape es i (d k) in
      IsStrictlyIncreasing-from_distinct (shapes_of sorted)
      (λ i j k order below. omega (arith, length-map sorted shape, read sorted i k, read sorted j k, up i j (d k) order))
      (IsDistinct-IsPermutation nat_eq (λ a b. Prim.grind (arith, nat_tests)) (shapes_of entries) (shapes_of sorted) (IsPermutation-map shape entries sorted same)
      (IsDistinct-from_apart nat_eq (shapes_of entries)
      (λ i j k order below. Prim.grind (arith, nat_tests, take-append-drop, length-map entries shape, read entries i k, read entries j k, h.apart i j (d k)))))

  pub sorted_shapes : All IsShape sorted
  sorted_shapes = All-permutation IsShape entries sorted same h.shapes

  entry_case : (shape : ℕ) (found : Option Entry) → entry_of shape sorted ≡ found → found ≡ gathered_entry rows shape
  entry_case shape (Some e) is =
      let P = λ (x : Entry). gathered_entry rows x.shape ≡ Some x in
      sym (found_entry rows shape sorted e (recursion_from_All P sorted (All-permutation P entries sorted same h.each)) is)
  entry_case shape None is =
      let absent : 0 < there_of rows shape → ⊥ = λ some.
      let e = h.every shape some in
      Prim.grind (arith, nat_tests, e.2, nothing_passes (λ (x : Entry). x.shape == shape) sorted e.0 is (Contains-permutation entries sorted e.0 same e.1)) in
      Prim.grind (arith, nat_tests)

  pub sorted_entry : (shape : ℕ) → entry_of shape sorted ≡ gathered_entry rows shape
  sorted_entry shape = entry_case shape (entry_of shape sorted) refl

-- ---- the dictionary of shares
module _ (canonical : CanonicalStays) (around : AroundStays) (kinds : Kinds) (games : ℕ) (shares : List Held) where
  -- what rows by number are, put in order
  pub is_gathered : (entries sorted : List Entry) → AreEntriesOf (all_rows shares) entries → IsPermutation entries sorted → IsNonDecreasingBy (λ (e : Entry). e.shape) sorted →
      (moves : ℕ) (diamonds : Bool) → All IsShare shares → All (λ (share : Held). share.kinds ≡ kinds) shares → AreWithin games shares → Covers games (all_games shares) →
      moves ≡ all_moves shares → diamonds ≡ counts_diamonds kinds → IsGathered kinds games shares (record { games = games; moves = moves; entries = sorted; counts_diamonds = diamonds })
  is_gathered entries sorted listed same up =
      gathered_from canonical around kinds games shares sorted (sorted_rises (all_rows shares) entries sorted listed same up)
      (sorted_shapes (all_rows shares) entries sorted listed same) (λ among shape. sorted_entry (all_rows shares) entries sorted listed same shape)
