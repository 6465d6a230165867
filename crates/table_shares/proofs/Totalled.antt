-- The rows of one number, added up, and what they are of a pattern.
use Rattle.std.proofs.Common.{◌≡◌, ℕ, ◌+◌, ◌==◌, Bool, true, false, cond, zero, suc, List, [], ◌∷◌, ◌++◌, Option, Some, None, refl, ap, ap₂, sym, ◌∙◌, arith, Contains, ◌≤◌, ◌^◌, ⊎_elim, ◌⊎◌, inl, inr}
use Rattle.table_shares.proofs.Found.{tail_numbers, others_differ, found_none, row_among, row_there}
use Rattle.table_shares.proofs.Common.{sum_by, find, nat_tests, sum_by-cons, sum_by-append, Entry, Row, row_of, first_at, earlier, AreOfNumbers, there_of, played_of, first_of, IsTotal, IsTotalAt, IsLargeAt, IsUnlike, AreAlike, there_at, played_at, with_row, earlier_none, earlier_assoc, find-append, option_or, AllByRecursion, All-weaker, All-contains_itself, Contains-append_cases, Contains-append_left, Contains-append_right, recursion_from_All, AreOneEach, IsListFault, IsSumFault, row_at}
use Rattle.harvest_faults.specs.declared.faults.HarvestFault.{HarvestFault}
use Rattle.harvest_faults.specs.declared.faults.HarvestFault.TheVariants as fault

-- what a row counts
abbrev pub at_number : (Row → ℕ) → List Row → ℕ → ℕ
at_number count rows number = sum_by (λ row. cond (row.number == number) (count row) 0) rows

-- ---- rows of which none is of a number
pub sum_none : (count : Row → ℕ) (rows : List Row) (number : ℕ) → row_of rows number ≡ None → at_number count rows number ≡ 0
sum_none count [] number none = refl
sum_none count (row ∷ rows) number none =
    Prim.grind (arith, sum_by-cons (λ (r : Row). cond (r.number == number) (count r) 0) row rows, sum_none count rows number)

pub first_none : (rows : List Row) (number : ℕ) → row_of rows number ≡ None → first_at rows number ≡ None
first_none [] number none = refl
first_none (row ∷ rows) number none = Prim.grind (arith, first_none rows number)

-- where nothing is found, nothing passes
pub nothing_passes : {X : Type 0} (p : X → Bool) (xs : List X) (x : X) → find p xs ≡ None → Contains xs x → p x ≡ false
nothing_passes p [] x none (place, low, is) = absurd (omega arith)
nothing_passes p (y ∷ xs) x none (zero, low, is) = Prim.grind (arith)
nothing_passes p (y ∷ xs) x none (suc place, low, is) =
    Prim.grind (arith, λ (fewer : find p xs ≡ None). nothing_passes p xs x fewer (place, omega arith, is))

pub none_in : (rows : List Row) (number : ℕ) (row : Row) → row_of rows number ≡ None → Contains rows row → row.number ≡ number → ⊥
none_in rows number row none among same = Prim.grind (arith, nat_tests, nothing_passes (λ (r : Row). r.number == number) rows row none among)

-- ---- rows of which one is of a number
pub found_number : (rows : List Row) (number : ℕ) (row : Row) → row_of rows number ≡ Some row → row.number ≡ number
found_number [] number row is = absurd cc
found_number (r ∷ rows) number row is = Prim.grind (arith, nat_tests, found_number rows number row)

pub found_in : (rows : List Row) (number : ℕ) (row : Row) → row_of rows number ≡ Some row → Contains rows row × (row.number ≡ number)
found_in rows number row is = (row_among rows number row is, found_number rows number row is)

pub no_others : (row : Row) (rows : List Row) (number : ℕ) → AreOfNumbers (row ∷ rows) → (row.number == number) ≡ true → row_of rows number ≡ None
no_others row rows number h same =
    let equal : row.number ≡ number = Prim.grind (arith, nat_tests) in
    found_none rows number (rw equal at (others_differ row rows h))

pub first_one : (rows : List Row) (number : ℕ) (row : Row) → AreOfNumbers rows → row_of rows number ≡ Some row → first_at rows number ≡ row.first
first_one [] number row h is = absurd cc
first_one (r ∷ rows) number row h is =
    Prim.grind (arith, no_others r rows number h, first_none rows number, earlier_none r.first, first_one rows number row (tail_numbers r rows h))

sum_one : (count : Row → ℕ) (rows : List Row) (number : ℕ) (row : Row) → AreOfNumbers rows → row_of rows number ≡ Some row → at_number count rows number ≡ count row
sum_one count [] number row h is = absurd cc
sum_one count (r ∷ rows) number row h is =
    Prim.grind (
      arith,
      no_others r rows number h,
      sum_by-cons (λ (r : Row). cond (r.number == number) (count r) 0) r rows,
      sum_none count rows number,
      sum_one count rows number row (tail_numbers r rows h),
    )

-- in rows of different numbers the rows of a number are one
pub alike_one : (rows : List Row) (number : ℕ) (row : Row) → AreOfNumbers rows → row_of rows number ≡ Some row → (r : Row) → Contains rows r → r.number ≡ number → r.shape ≡ row.shape
alike_one rows number row h is r among same =
    let found = found_in rows number row is in
    let here = row_there rows r among in
    let there = row_there rows row found.0 in
    let place = h among.0 found.0.0 among.1 found.0.1 (ap (λ (x : Row). x.number) here ∙ same ∙ sym (ap (λ (x : Row). x.number) there ∙ found.1)) in
    ap (λ (x : Row). x.shape) (sym here ∙ ap (row_at rows) place ∙ there)

-- ---- more rows
pub found_with : (rows more : List Row) (number : ℕ) → row_of (rows ++ more) number ≡ option_or (row_of rows number) (row_of more number)
found_with rows more number = find-append (λ (r : Row). r.number == number) rows more

pub first_more : (rows more : List Row) (number : ℕ) → first_at (rows ++ more) number ≡ earlier (first_at rows number) (first_at more number)
first_more [] more number = refl
first_more (row ∷ rows) more number =
    let one = cond (row.number == number) row.first None in
    ap (earlier one) (first_more rows more number) ∙ sym (earlier_assoc one (first_at rows number) (first_at more number))

sum_more : (count : Row → ℕ) (rows more : List Row) (number : ℕ) → at_number count (rows ++ more) number ≡ at_number count rows number + at_number count more number
sum_more count rows more number = sum_by-append (λ (row : Row). cond (row.number == number) (count row) 0) rows more

-- a sum that is too large still is with more rows
pub large_more : (rows more : List Row) (number : ℕ) → IsLargeAt rows number → IsLargeAt (rows ++ more) number
large_more rows more number large =
    let there = sum_more (λ (r : Row). r.there) rows more number in
    let played = sum_more (λ (r : Row). r.played) rows more number in
    Prim.grind (arith)

module _ (rows more : List Row) (number : ℕ) where
  -- none of them is of the number
  pub total_other : (total : Option Entry) → row_of more number ≡ None → IsTotalAt rows number total → IsTotalAt (rows ++ more) number total
  total_other None none h = Prim.grind (arith, found_with rows more number)
  total_other (Some total) none h = record {
    one = h.one;
    among = Contains-append_left rows more h.one h.among;
    numbered = h.numbered;
    alike = λ r among same. ⊎_elim (λ (old : Contains rows r). h.alike r old same) (λ (new : Contains more r). absurd (none_in more number r none new same))
        (Contains-append_cases rows more r among);
    there = Prim.grind (arith, h.there, sum_more (λ (r : Row). r.there) rows more number, sum_none (λ (r : Row). r.there) more number none);
    played = Prim.grind (arith, h.played, sum_more (λ (r : Row). r.played) rows more number, sum_none (λ (r : Row). r.played) more number none);
    first = Prim.grind (arith, h.first, first_more rows more number, first_none more number none, earlier_none (first_at rows number));
  }

  -- one of them is
  module _ (row : Row) (apart : AreOfNumbers more) (is : row_of more number ≡ Some row) where
    -- the first one of the number
    pub total_first : row_of rows number ≡ None → IsTotal (rows ++ more) number (with_row None row)
    total_first none = record {
      one = row;
      among = Contains-append_right rows more row (found_in more number row is).0;
      numbered = (found_in more number row is).1;
      alike = λ r among same. ⊎_elim (λ (old : Contains rows r). absurd (none_in rows number r none old same))
          (λ (new : Contains more r). alike_one more number row apart is r new same) (Contains-append_cases rows more r among);
      there = Prim.grind (arith, sum_more (λ (r : Row). r.there) rows more number, sum_none (λ (r : Row). r.there) rows number none, sum_one (λ (r : Row). r.there) more number row apart is);
      played = Prim.grind (arith, sum_more (λ (r : Row). r.played) rows more number, sum_none (λ (r : Row). r.played) rows number none, sum_one (λ (r : Row). r.played) more number row apart is);
      first = Prim.grind (arith, first_more rows more number, first_none rows number none, first_one more number row apart is);
    }

    -- one more of it
    pub total_with : (total : Entry) → total.shape ≡ row.shape → IsTotal rows number total → IsTotal (rows ++ more) number (with_row (Some total) row)
    total_with total like h = record {
      one = h.one;
      among = Contains-append_left rows more h.one h.among;
      numbered = h.numbered;
      alike = λ r among same. ⊎_elim (λ (old : Contains rows r). h.alike r old same)
          (λ (new : Contains more r). alike_one more number row apart is r new same ∙ sym like) (Contains-append_cases rows more r among);
      there = Prim.grind (arith, h.there, sum_more (λ (r : Row). r.there) rows more number, sum_one (λ (r : Row). r.there) more number row apart is);
      played = Prim.grind (arith, h.played, sum_more (λ (r : Row). r.played) rows more number, sum_one (λ (r : Row). r.played) more number row apart is);
      first = Prim.grind (arith, h.first, first_more rows more number, first_one more number row apart is);
    }

    -- one that does not go with it
    pub large_with : (total : Entry) → IsUnlike total row → IsTotal rows number total → AreAlike (rows ++ more) → IsLargeAt (rows ++ more) number
    large_with total unlike h alike =
        let found = found_in more number row is in
        let one = alike h.one row (Contains-append_left rows more h.one h.among) (Contains-append_right rows more row found.0) (h.numbered ∙ sym found.1) in
        Prim.grind (
          arith,
          h.alike h.one h.among h.numbered,
          h.there,
          h.played,
          sum_more (λ (r : Row). r.there) rows more number,
          sum_more (λ (r : Row). r.played) rows more number,
          sum_one (λ (r : Row). r.there) more number row apart is,
          sum_one (λ (r : Row). r.played) more number row apart is,
        )

-- ---- a row alone
pub one_row : (row : Row) → AreOfNumbers (row ∷ [])
one_row row one other low high same = omega arith

pub row_found : (row : Row) → row_of (row ∷ []) row.number ≡ Some row
row_found row = Prim.grind (arith, nat_tests)

pub row_passed : (row : Row) (number : ℕ) → (row.number ≡ number → ⊥) → row_of (row ∷ []) number ≡ None
row_passed row number other = Prim.grind (arith, nat_tests)

-- ---- sums that are too large
-- they are so with more rows
pub sum_fault_more : (rows more : List Row) (number : ℕ) (found : HarvestFault) → IsSumFault rows number found → IsSumFault (rows ++ more) number found
sum_fault_more rows more number fault.Overflow h = λ alike.
    large_more rows more number (h (λ one other first second. alike one other (Contains-append_left rows more one first) (Contains-append_left rows more other second)))
sum_fault_more rows more number _ h = absurd h

pub list_fault : (rows : List Row) (number : ℕ) (found : HarvestFault) → AreOneEach rows → IsSumFault rows number found → IsListFault rows found
list_fault rows number fault.Overflow each h = (number, h (λ one other first second. (each one other first second).0))
list_fault rows number _ each h = absurd h

-- ---- the rows of a number are those of a pattern
abbrev IsPatternOf : ℕ → ℕ → List Row → Type 0
IsPatternOf number shape rows = AllByRecursion (λ (row : Row). (row.number == number) ≡ (row.shape == shape)) rows

are_alike : (rows : List Row) (one : Row) → AreOneEach rows → Contains rows one → IsPatternOf one.number one.shape rows
are_alike rows one h in' =
    recursion_from_All (λ (row : Row). (row.number == one.number) ≡ (row.shape == one.shape)) rows
    (All-weaker (Contains rows) (λ (row : Row). (row.number == one.number) ≡ (row.shape == one.shape))
    (λ row among. Prim.grind (arith, nat_tests, (h row one among in').0, (h row one among in').1)) rows (All-contains_itself rows))

sum_alike : (count : Row → ℕ) (number shape : ℕ) (rows : List Row) → IsPatternOf number shape rows → at_number count rows number ≡ sum_by (λ row. cond (row.shape == shape) (count row) 0) rows
sum_alike count number shape [] alike = refl
sum_alike count number shape (row ∷ rows) alike =
    Prim.grind (
      arith,
      alike.0,
      sum_by-cons (λ (r : Row). cond (r.number == number) (count r) 0) row rows,
      sum_alike count number shape rows alike.1,
      sum_by-cons (λ (r : Row). cond (r.shape == shape) (count r) 0) row rows,
    )

first_alike : (number shape : ℕ) (rows : List Row) → IsPatternOf number shape rows → first_at rows number ≡ first_of rows shape
first_alike number shape [] alike = refl
first_alike number shape (row ∷ rows) alike = ap₂ earlier (ap (λ b. cond b row.first None) alike.0) (first_alike number shape rows alike.1)

-- the rows of the number of a row
abbrev HasSums : List Row → Row → Type 0
HasSums rows one = (there_at rows one.number ≡ there_of rows one.shape) × (played_at rows one.number ≡ played_of rows one.shape) × (first_at rows one.number ≡ first_of rows one.shape)

pub has_sums : (rows : List Row) (one : Row) → AreOneEach rows → Contains rows one → HasSums rows one
has_sums rows one h among =
    let alike = are_alike rows one h among in
    (sum_alike (λ (r : Row). r.there) one.number one.shape rows alike, sum_alike (λ (r : Row). r.played) one.number one.shape rows alike, first_alike one.number one.shape rows alike)

-- a sum that is too large is that of some pattern
pub large_pattern : (rows : List Row) (number : ℕ) (found : Option Row) → row_of rows number ≡ found → AreOneEach rows → IsLargeAt rows number →
    ((shape : ℕ) × (2 ^ 64 ≤ there_of rows shape)) ⊎ ((shape : ℕ) × (2 ^ 64 ≤ played_of rows shape))
large_pattern rows number None is h large =
    absurd (Prim.grind (arith, sum_none (λ (r : Row). r.there) rows number is, sum_none (λ (r : Row). r.played) rows number is))
large_pattern rows number (Some one) is h large =
    let found = found_in rows number one is in
    let sums = has_sums rows one h found.0 in
    ⊎_elim
    (λ (many : 2 ^ 64 ≤ there_at rows number). inl (one.shape, Prim.grind (arith, sums.0, found.1)))
    (λ (many : 2 ^ 64 ≤ played_at rows number). inr (one.shape, Prim.grind (arith, sums.1, found.1)))
    large
