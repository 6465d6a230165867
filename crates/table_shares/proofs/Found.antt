-- Rows that are found by their number.
use Rattle.std.proofs.Common.{◌≡◌, ℕ, ◌^◌, ◌<◌, ◌≤◌, ◌==◌, true, false, cond, zero, suc, List, [], ◌∷◌, ◌++◌, length, get_or, Some, None, IfNone, refl, ap, sym, ◌∙◌, arith, length-append, ⊎_elim, Contains}
use Rattle.std.specs.Ordering.{nat_cmp, is_gt}
use Rattle.std.specs.BTreeMap.{BTreeMap, get, Updates}
use Rattle.std.specs.BTreeMap.Range.{IsRangeOf}
use Rattle.std.specs.declared.ops.Bound.TheVariants.{Included, Unbounded}
use Rattle.std.proofs.lemmas.Map.Keys.{le_from_not_gt}
use Rattle.std.proofs.Math.ListN.{set, get_or-append}
use Rattle.std.proofs.lemmas.Option.{IfSome_then}
use Rattle.table_shares.proofs.Common.{nat_tests, cases_eq, cases_lt, get_or_default, get_or_push, length-set, Contains-append_right, Row, row_at, row_of, blank, AreOfNumbers, ArePlaces, HasNoRow}
use Rattle.table_shares.specs.ShareRows.{IsLeastFrom}
use Rattle.table_shares.proofs.Places.{each_more, put_at}

-- ---- rows of different numbers
pub tail_numbers : (row : Row) (rows : List Row) → AreOfNumbers (row ∷ rows) → AreOfNumbers rows
tail_numbers row rows h one other low high same = omega (arith, h (suc one) (suc other) (omega arith) (omega arith) same)

-- no later row is of the number of the first one
pub others_differ : (row : Row) (rows : List Row) → AreOfNumbers (row ∷ rows) → HasNoRow rows row.number
others_differ row rows h place low same = absurd (omega (arith, h (suc place) 0 (omega arith) (omega arith) same))

pub found_none : (rows : List Row) (number : ℕ) → HasNoRow rows number → row_of rows number ≡ None
found_none [] number h = refl
found_none (row ∷ rows) number h =
    Prim.grind (arith, nat_tests, h 0 (omega arith), found_none rows number (λ place low same. h (suc place) (omega arith) same))

pub found_row : (rows : List Row) (number place : ℕ) → AreOfNumbers rows → place < length rows →
    (row_at rows place).number ≡ number → row_of rows number ≡ Some (row_at rows place)
found_row [] number place h low same = absurd (omega arith)
found_row (row ∷ rows) number zero h low same = Prim.grind (arith, nat_tests)
found_row (row ∷ rows) number (suc place) h low same =
    let apart = others_differ row rows h place (omega arith) in
    Prim.grind (arith, nat_tests, apart, found_row rows number place (tail_numbers row rows h) (omega arith) same)

-- a row that is found is among the rows
pub row_among : (rows : List Row) (number : ℕ) (row : Row) → row_of rows number ≡ Some row → Contains rows row
row_among [] number row is = absurd cc
row_among (first ∷ rows) number row is =
    elim (first.number == number) as (λ b. cond b (Some first) (row_of rows number) ≡ Some row → Contains (first ∷ rows) row) [
      | true ↦ λ here. (0, (let l : 0 < length (first ∷ rows) = omega arith in l), (let same : first ≡ row = cc in same))
      | false ↦ λ there. Contains-append_right (first ∷ []) rows row (row_among rows number row there)
    ] is

-- a row among others is at a place
pub row_there : (rows : List Row) (row : Row) (h : Contains rows row) → row_at rows h.0 ≡ row
row_there rows row h = sym (get_or_default rows h.0 row (blank 0 0) h.1) ∙ h.2

-- ---- a map of places
not_gt : (a b : ℕ) → a ≤ b → is_gt (nat_cmp a b) ≡ false
not_gt a b low = Prim.grind (arith, nat_tests)

-- no number has two rows
pub numbers_of : {places : BTreeMap ℕ ℕ} {rows : List Row} → ArePlaces places rows → AreOfNumbers rows
numbers_of {places = places} h one other low high same =
    let places_are : Some one ≡ Some other = sym (h.each one low) ∙ ap (get nat_cmp places) same ∙ h.each other high in
    (let is : one ≡ other = cc in is)

-- a number that the map does not have has no row
pub no_row : {places : BTreeMap ℕ ℕ} {rows : List Row} → ArePlaces places rows → (number : ℕ) →
    IfNone (get nat_cmp places number) (HasNoRow rows number)
no_row {places = places} {rows = rows} h number =
    elim (get nat_cmp places number) as (λ found. get nat_cmp places number ≡ found → IfNone found (HasNoRow rows number)) [
      | None ↦ λ none place low same.
          let found : None ≡ Some place = sym none ∙ ap (get nat_cmp places) (sym same) ∙ h.each place low in absurd cc
      | Some place ↦ λ _. tt
    ] refl

-- of the numbers from one on the map's first is that of the least row
pub least_from : {places : BTreeMap ℕ ℕ} {rows : List Row} → ArePlaces places rows → (from : ℕ) (range rest : List (ℕ × ℕ))
    (first : ℕ × ℕ) → IsRangeOf nat_cmp (Included from) Unbounded places range → range ≡ first ∷ rest →
    (row : Row) → row ≡ get_or rows first.1 row → IsLeastFrom from rows (Some row)
least_from {places = places} {rows = rows} h from range rest first is_range is row read =
    let found = rw is at is_range.1 in
    let place = rw found.1 at (h.found first.0) in
    let least = λ (one : Row) (among : Contains rows one) (high : from ≤ one.number).
    let has = ap (λ (r : Row). get nat_cmp places r.number) (sym (row_there rows one among)) ∙ h.each among.0 among.1 in
    le_from_not_gt first.0 one.number (rw is at (is_range.2 one.number (not_gt from one.number high, tt) (rw has refl))) in
    rw (read ∙ get_or_default rows first.1 row (blank 0 0) place.0) (
      (let high : from ≤ (row_at rows first.1).number = omega (arith, le_from_not_gt from first.0 found.0.0, place.1) in high),
      found_row rows (row_at rows first.1).number first.1 (numbers_of h) place.0 refl,
      (λ one among high. omega (arith, least one among high, place.1)),
    )

-- and where it has none from there on, no row is left
pub none_from : {places : BTreeMap ℕ ℕ} {rows : List Row} → ArePlaces places rows → (from : ℕ) (range : List (ℕ × ℕ)) →
    IsRangeOf nat_cmp (Included from) Unbounded places range → range ≡ [] → IsLeastFrom from rows None
none_from {places = places} {rows = rows} h from range is_range is one among = ⊎_elim
    (λ (low : one.number < from). low)
    (λ (high : from ≤ one.number).
    let has = ap (λ (r : Row). get nat_cmp places r.number) (sym (row_there rows one among)) ∙ h.each among.0 among.1 in
    let found : None ≡ Some among.0 = sym (is_range.5 is one.number (not_gt from one.number high, tt)) ∙ has in absurd cc)
    (cases_lt one.number from)

-- a number that had no row gets one, at the end
pub put_last : {places new : BTreeMap ℕ ℕ} {rows : List Row} → ArePlaces places rows → (row : Row) → row.number < 2 ^ 22 →
    HasNoRow rows row.number → Updates nat_cmp places new row.number (Some (length rows)) → ArePlaces new (rows ++ row ∷ [])
put_last {places = places} {new = new} {rows = rows} h row low none step = record {
  each = each_more (λ place (r : Row). get nat_cmp new r.number ≡ Some place) rows row (blank 0 0)
      (λ place low. Prim.grind (arith, nat_tests, step.0 (row_at rows place).number, h.each place low, none place low))
      step.1;
  found = λ number. ⊎_elim
      (λ (same : number ≡ row.number). rw (same, step.1) (
        (let l : length rows < length (rows ++ row ∷ []) = omega (arith, length-append rows (row ∷ [])) in l),
        ap (λ (r : Row). r.number) (get_or_push rows row (blank 0 0) (length rows) refl),
      ))
      (λ (other : number ≡ row.number → ⊥).
      let stays : get nat_cmp new number ≡ get nat_cmp places number = Prim.grind (arith, nat_tests, step.0 number, other) in
      rw stays (IfSome_then (get nat_cmp places number) (h.found number) (λ place is. (
        (let l : place < length (rows ++ row ∷ []) = omega (arith, length-append rows (row ∷ []), is.0) in l),
        ap (λ (r : Row). r.number) (get_or-append rows (row ∷ []) (blank 0 0) place is.0) ∙ is.1,
      ))))
      (cases_eq number row.number);
  small = each_more (λ _ (r : Row). r.number < 2 ^ 22) rows row (blank 0 0) h.small low;
}

-- a row that is put at the place of one of its number
pub put : {places : BTreeMap ℕ ℕ} {rows : List Row} → ArePlaces places rows → (at : ℕ) (row : Row) → at < length rows →
    row.number ≡ (row_at rows at).number → ArePlaces places (set rows at row)
put {places = places} {rows = rows} h at row within number =
    let long : length (set rows at row) ≡ length rows = length-set rows at row in
    let same = λ (place : ℕ).
    put_at (λ p (r : Row). r.number ≡ (row_at rows p).number) rows at row (blank 0 0) within number place (λ _. refl) in
    record {
      each = λ place low. ap (get nat_cmp places) (same place) ∙ h.each place (omega (arith, low, long));
      found = λ one. IfSome_then (get nat_cmp places one) (h.found one)
          (λ place is. ((let l : place < length (set rows at row) = omega (arith, is.0, long) in l), same place ∙ is.1));
      small = λ place low. omega (arith, h.small place (omega (arith, low, long)), same place);
    }
