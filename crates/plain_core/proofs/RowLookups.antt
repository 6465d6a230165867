-- What rows count of a pattern.
use Rattle.std.proofs.Common.{◌≡◌, ℕ, zero, suc, ◌+◌, ◌^◌, ◌<◌, ◌≤◌, ◌==◌, nat_eq, Bool, true, false, not, ◌&&◌, cond, List, [], ◌∷◌, length, take, slice_set, Some, None, refl, ap, ap₂, sym, ◌∙◌, arith, All}
use Rattle.std.specs.List.{AllByRecursion, IsDistinct}
use Rattle.std.specs.Map.{keys_of}
use Rattle.std.proofs.lemmas.Bool.Decides.{nat_tests}
use Rattle.std.proofs.lemmas.List.Elements.{All-weaker, filter_passes}
use Rattle.std.proofs.lemmas.List.Sums.{length-filter, count_by-le-length, sum_by-set}
use Rattle.std.proofs.lemmas.Map.Keys.{IsDistinct-cons}
use Rattle.shape_dict.specs.declared.entries.Entry.{Entry}
use Rattle.plain_core.specs.Inner.Counter.{count_in, uses_at, used_again, AreCounts, IsCountingFault}
use Rattle.tally_core.specs.Inner.Times.{one_pattern}
use Rattle.plain_core.specs.Inner.Entries.{pair_of, pairs_of, counts_of, counted_with}
use Rattle.range_core.specs.Rows.{is_taken, taken_of, row_at, AreRows, IsFound}
use Rattle.plain_core.specs.Inner.Rows.{counted_row}
use Rattle.tally_core.specs.declared.faults.TallyFault.TheVariants as fault
use Rattle.tally_core.proofs.Lasting.{all-of}
use Rattle.plain_core.proofs.Used.{again-none, again-uses, first_used-some, used_one}

-- no row but that of one place is of a pattern
abbrev pub StandsOnlyAt : List Entry → ℕ → ℕ → Type 0
StandsOnlyAt rows shape place = (other : ℕ) → is_taken (row_at rows other) ≡ true → (row_at rows other).shape ≡ shape → other ≡ place

only_later : (first : Entry) (rows : List Entry) (shape place : ℕ) → StandsOnlyAt (first ∷ rows) shape (suc place) → StandsOnlyAt rows shape place
only_later first rows shape place only other taken is = omega (arith, only (suc other) taken is)

-- whether a row is of a pattern
abbrev pub is_of : Entry → ℕ → Bool
is_of row shape = is_taken row && nat_eq shape row.shape

counts-cons : (row : Entry) (rows : List Entry) (shape : ℕ) → counts_of (row ∷ rows) shape ≡ cond (is_of row shape) (Some (pair_of row).1) (counts_of rows shape)
counts-cons row rows shape =
    elim (is_taken row) as (λ b. count_in (pairs_of (cond b (row ∷ taken_of rows) (taken_of rows))) shape ≡ cond (b && nat_eq shape row.shape) (Some (pair_of row).1) (counts_of rows shape))
    [ true ↦ refl | false ↦ refl ]

-- where no row is of a pattern
none_found : (rows : List Entry) (shape : ℕ) → ((other : ℕ) → is_taken (row_at rows other) ≡ true → (row_at rows other).shape ≡ shape → ⊥) → counts_of rows shape ≡ None
none_found [] shape none = refl
none_found (first ∷ rows) shape none =
    let later = none_found rows shape (λ other. none (suc other)) in
    Prim.grind (arith, nat_tests, counts-cons first rows shape, none 0)

-- where a place has the row of a pattern, or is free and the pattern has no row
found_count : (rows : List Entry) (place shape : ℕ) → place < length rows → (is_taken (row_at rows place) ≡ true → (row_at rows place).shape ≡ shape) → StandsOnlyAt rows shape place →
    counts_of rows shape ≡ cond (is_taken (row_at rows place)) (Some (pair_of (row_at rows place)).1) None
found_count [] place shape within same only = absurd (omega (arith, within))
found_count (first ∷ rows) zero shape within same only =
    let none = none_found rows shape (λ other taken is. absurd (omega (arith, only (suc other) taken is))) in
    Prim.grind (arith, nat_tests, counts-cons first rows shape)
found_count (first ∷ rows) (suc place) shape within same only =
    let later = found_count rows place shape (omega (arith, within)) same (only_later first rows shape place only) in
    Prim.grind (arith, nat_tests, counts-cons first rows shape, only 0)

-- a row is put where the pattern's row was, or at a free place where it had none
put_count : (rows : List Entry) (place shape : ℕ) (row : Entry) → place < length rows → is_taken row ≡ true → (is_taken (row_at rows place) ≡ true → (row_at rows place).shape ≡ row.shape) →
    StandsOnlyAt rows row.shape place → counts_of (slice_set rows place row) shape ≡ cond (row.shape == shape) (Some (pair_of row).1) (counts_of rows shape)
put_count [] place shape row within some same only = absurd (omega (arith, within))
put_count (first ∷ rows) zero shape row within some same only = Prim.grind (arith, nat_tests, counts-cons row rows shape, counts-cons first rows shape)
put_count (first ∷ rows) (suc place) shape row within some same only =
    let later = put_count rows place shape row (omega (arith, within)) some same (only_later first rows row.shape place only) in
    Prim.grind (arith, nat_tests, counts-cons first (slice_set rows place row) shape, counts-cons first rows shape, only 0)

-- a row that counts more
pub counted_taken : (row entry : Entry) → 0 < entry.there + entry.played → is_taken (counted_row row entry) ≡ true
counted_taken row entry some = Prim.grind (arith, nat_tests)

-- so a pattern was counted again
pub put_counts : {factor : ℕ} (rows : List Entry) (place : ℕ) (entry row more : Entry) → IsFound factor rows entry.shape place → 0 < entry.there + entry.played → row ≡ row_at rows place →
    more ≡ counted_row row entry → AreCounts (counted_with entry (counts_of rows)) (counts_of (slice_set rows place more))
put_counts rows place entry row more found some read is =
    rw (is, read)
    (let new = counted_row (row_at rows place) entry in
    used_one entry.first entry.shape entry.there entry.played (pair_of new).1 (counts_of rows) (counts_of (slice_set rows place new))
    (let before = found_count rows place entry.shape found.within found.same found.only in Prim.grind (arith, nat_tests, first_used-some entry.first entry.there entry.played some))
    (λ key. put_count rows place key new found.within (counted_taken (row_at rows place) entry some) found.same found.only))

-- the sum of its counts passes what fits
pub put_fault : {factor : ℕ} (rows : List Entry) (place : ℕ) (entry : Entry) → IsFound factor rows entry.shape place →
    2 ^ 64 ≤ (row_at rows place).there + (row_at rows place).played + entry.there + entry.played → IsCountingFault 0 (counted_with entry (counts_of rows)) fault.Overflow
put_fault rows place entry found large =
    let shape = entry.shape in
    let uses = again-uses entry.first (one_pattern shape entry.there shape) (one_pattern shape entry.played shape) (counts_of rows shape) in
    let before = ap uses_at (found_count rows place shape found.within found.same found.only) in
    (shape, Prim.grind (arith, nat_tests, uses, all-of shape entry.there, all-of shape entry.played, before, large))

-- and one place more is taken, where it was free
pub put_length : (rows : List Entry) (place : ℕ) (row : Entry) → place < length rows → is_taken row ≡ true →
    length (taken_of (slice_set rows place row)) ≡ length (taken_of rows) + cond (not (is_taken (row_at rows place))) 1 0
put_length rows place row within some =
    let sums = sum_by-set (λ (r : Entry). cond (is_taken r) 1 0) rows place row (record { shape = 0; there = 0; played = 0; first = None }) within in
    let long = length-filter is_taken rows in
    let more = length-filter is_taken (slice_set rows place row) in
    Prim.grind (arith, nat_tests, sums, long, more, some)

pub taken_few : (rows : List Entry) → length (taken_of rows) ≤ length rows
taken_few rows = let long = length-filter is_taken rows in let few = count_by-le-length is_taken rows in omega arith

-- ---- the first rows, one after another
take_count : (rows : List Entry) (i shape : ℕ) → i < length rows → (is_taken (row_at rows i) ≡ true → StandsOnlyAt rows (row_at rows i).shape i) →
    counts_of (take (suc i) rows) shape ≡ cond (is_of (row_at rows i) shape) (Some (pair_of (row_at rows i)).1) (counts_of (take i rows) shape)
take_count [] i shape within only = absurd (omega (arith, within))
take_count (first ∷ rows) zero shape within only = counts-cons first [] shape
take_count (first ∷ rows) (suc i) shape within only =
    let later = take_count rows i shape (omega (arith, within)) (λ taken. only_later first rows (row_at rows i).shape i (only taken)) in
    Prim.grind (arith, nat_tests, counts-cons first (take (suc i) rows) shape, counts-cons first (take i rows) shape, λ (taken : is_taken (row_at rows i) ≡ true). only taken 0)

none_before : (rows : List Entry) (i : ℕ) → i < length rows → StandsOnlyAt rows (row_at rows i).shape i → counts_of (take i rows) (row_at rows i).shape ≡ None
none_before [] i within only = absurd (omega (arith, within))
none_before (first ∷ rows) zero within only = refl
none_before (first ∷ rows) (suc i) within only =
    let later = none_before rows i (omega (arith, within)) (only_later first rows (row_at rows i).shape i only) in
    Prim.grind (arith, nat_tests, counts-cons first (take i rows) (row_at rows i).shape, only 0)

-- with one row more its pattern was counted as often as the row says
pub take_counts : {factor : ℕ} (rows : List Entry) (i : ℕ) → AreRows factor rows → i < length rows →
    AreCounts (counted_with (row_at rows i) (counts_of (take i rows))) (counts_of (take (suc i) rows))
take_counts rows i are within =
    let row = row_at rows i in
    let only = λ (taken : is_taken row ≡ true). λ (other : ℕ). are.once i other taken in
    let more = λ (shape : ℕ). take_count rows i shape within only in
    elim (is_taken row) as (λ b. is_taken row ≡ b → AreCounts (counted_with row (counts_of (take i rows))) (counts_of (take (suc i) rows))) [
      | true ↦ λ taken.
          used_one row.first row.shape row.there row.played (pair_of row).1 (counts_of (take i rows)) (counts_of (take (suc i) rows))
          (ap (used_again row.first row.there row.played) (none_before rows i within (only taken)) ∙ first_used-some row.first row.there row.played (Prim.grind (arith, nat_tests)))
          (λ shape. Prim.grind (arith, nat_tests, more shape))
      | false ↦ λ free. λ shape.
          let same : counts_of (take (suc i) rows) shape ≡ counts_of (take i rows) shape = Prim.grind (arith, nat_tests, more shape) in
          let there : 0 ≡ one_pattern row.shape row.there shape = Prim.grind (arith, nat_tests) in
          let played : 0 ≡ one_pattern row.shape row.played shape = Prim.grind (arith, nat_tests) in
          same ∙ sym (again-none row.first (counts_of (take i rows) shape)) ∙ ap₂ (λ t p. used_again row.first t p (counts_of (take i rows) shape)) there played
    ] refl

-- ---- no pattern is twice among the rows that count something
none_among : (rows : List Entry) (shape : ℕ) → ((other : ℕ) → is_taken (row_at rows other) ≡ true → (row_at rows other).shape ≡ shape → ⊥) → AllByRecursion (λ key. nat_eq shape key ≡ false) (keys_of (pairs_of (taken_of rows)))
none_among [] shape none = tt
none_among (first ∷ rows) shape none =
    let later = none_among rows shape (λ other. none (suc other)) in
    elim (is_taken first) as (λ b. is_taken first ≡ b → AllByRecursion (λ key. nat_eq shape key ≡ false) (keys_of (pairs_of (cond b (first ∷ taken_of rows) (taken_of rows)))))
    [ true ↦ λ taken. (Prim.grind (arith, nat_tests, none 0 taken), later) | false ↦ λ free. later ] refl

distinct : (rows : List Entry) → ((one other : ℕ) → is_taken (row_at rows one) ≡ true → is_taken (row_at rows other) ≡ true → (row_at rows other).shape ≡ (row_at rows one).shape → other ≡ one) →
    IsDistinct nat_eq (keys_of (pairs_of (taken_of rows)))
unfolding IsDistinct
distinct [] once = tt
distinct (first ∷ rows) once =
    let later = distinct rows (λ one other taken more is. Prim.grind (arith, once (suc one) (suc other) taken more is)) in
    elim (is_taken first) as (λ b. is_taken first ≡ b → IsDistinct nat_eq (keys_of (pairs_of (cond b (first ∷ taken_of rows) (taken_of rows))))) [
      | true ↦ λ taken. IsDistinct-cons nat_eq first.shape (keys_of (pairs_of (taken_of rows)))
          (none_among rows first.shape (λ other more is. absurd (omega (arith, once 0 (suc other) taken more is)))) later
      | false ↦ λ free. later
    ] refl

pub once_among : {factor : ℕ} (rows : List Entry) → AreRows factor rows → IsDistinct nat_eq (keys_of (pairs_of (taken_of rows)))
once_among rows are = distinct rows are.once

-- each row that is taken counts something
counts_some : (row : Entry) → is_taken row ≡ true → 0 < row.there + row.played
counts_some row taken = Prim.grind (arith, nat_tests)

pub all_count : (rows : List Entry) → All (λ row. 0 < row.there + row.played) (taken_of rows)
all_count rows =
    All-weaker (λ row. is_taken row ≡ true) (λ row. 0 < row.there + row.played) counts_some (taken_of rows)
    (filter_passes is_taken rows)
