-- Points that are taken out of a set, row by row.
use Rattle.std.proofs.Common.{◌≡◌, ◌≢◌, ℕ, zero, suc, ◌+◌, ◌-◌, ◌^◌, ◌<◌, ◌≤◌, ◌==◌, Bool, true, false, cond, List, [], ◌∷◌, ◌++◌, map, filter, slice_index, bit_and, w64, ◌*◌, ◌%◌, refl, ap, sym, ◌∙◌, ⊎_elim, arith}
use Rattle.std.specs.Int.{bit_at, bit_not, trailing_zeros}
use Rattle.std.specs.List.{flat_map}
use Rattle.std.proofs.Math.Nat.{eq-or-lt_of_le}
use Rattle.std.proofs.lemmas.Bool.Decides.{nat_tests}
use Rattle.std.proofs.lemmas.List.Elements.{filter_agree, filter-append}
use Rattle.std.proofs.lemmas.Nat.Bits.{bit_at-zero, bit_at-trailing_zeros, bit_at_clear_same, bit_at_clear_other, bit_at_above}
use Rattle.std.proofs.lemmas.Nat.{and_le_l}
use Rattle.std.proofs.Math.Pow.{pow_mono}
use Rattle.std.proofs.lemmas.Bool.{cases_eq, cases_lt}
use Rattle.go_board.specs.Extent.{Extent}
use Rattle.go_board.specs.declared.points.Point.{Point}
use Rattle.shape_core.specs.Word.{count_from}
use Rattle.tally_core.specs.Counts.{row_of}
use Rattle.tally_core.specs.Inner.Standing.{is_in_set}
use Rattle.tally_core.proofs.Rows.{count_from-first}

point : ℕ → ℕ → Point
point row column = record { column = column; row = row }

-- the points of a part of a row of which the column passes
kept : (ℕ → Bool) → ℕ → ℕ → ℕ → List Point
kept p row first n = filter (λ q. p q.column) (map (λ column. record { column = column; row = row }) (count_from first n))

kept-agree : (p q : ℕ → Bool) (row first n : ℕ) → ((i : ℕ) → first ≤ i → p i ≡ q i) → kept p row first n ≡ kept q row first n
unfolding kept
kept-agree p q row first zero same = refl
kept-agree p q row first (suc n) same =
    ap (λ b. cond b (record { column = first; row = row } ∷ kept p row (suc first) n) (kept p row (suc first) n)) (same first (omega arith))
    ∙ ap (λ ps. cond (q first) (record { column = first; row = row } ∷ ps) ps) (kept-agree p q row (suc first) n (λ i more. same i (omega arith)))

-- the first point that passes, and the others
kept-first : (p q : ℕ → Bool) (row k first n : ℕ) → p k ≡ true → q k ≡ false → ((i : ℕ) → i < k → p i ≡ false) → ((i : ℕ) → i ≢ k → q i ≡ p i) → first ≤ k → k < first + n →
    kept p row first n ≡ record { column = k; row = row } ∷ kept q row first n
unfolding kept
kept-first p q row k first zero passes gone none others low high = absurd (omega arith)
kept-first p q row k first (suc n) passes gone none others low high =
    ⊎_elim
    (λ (same : first ≡ k).
    ap (λ b. cond b (record { column = first; row = row } ∷ kept p row (suc first) n) (kept p row (suc first) n)) (ap p same ∙ passes)
    ∙ ap (λ column. record { column = column; row = row } ∷ kept p row (suc first) n) same
    ∙ ap (λ ps. record { column = k; row = row } ∷ ps)
    (kept-agree p q row (suc first) n (λ i more. sym (others i (λ e. absurd (omega arith))))
    ∙ sym (ap (λ b. cond b (record { column = first; row = row } ∷ kept q row (suc first) n) (kept q row (suc first) n)) (ap q same ∙ gone))))
    (λ (before : first < k).
    ap (λ b. cond b (record { column = first; row = row } ∷ kept p row (suc first) n) (kept p row (suc first) n)) (none first before)
    ∙ kept-first p q row k (suc first) n passes gone none others (omega arith) (omega arith)
    ∙ ap (λ ps. record { column = k; row = row } ∷ ps)
    (sym (ap (λ b. cond b (record { column = first; row = row } ∷ kept q row (suc first) n) (kept q row (suc first) n))
    (others first (λ e. absurd (omega arith)) ∙ none first before))))
    (eq-or-lt_of_le low)

is-one : (a b : ℕ) → a ≡ b → (a == b) ≡ true
is-one a b h = Prim.grind (arith, nat_tests)

is-none : (a : ℕ) → a ≡ 0 → (a == 1) ≡ false
is-none a h = Prim.grind (arith, nat_tests)

-- the point of the lowest bit of a row, and those of the others
pub row-first : (size : Extent) (row bits clear k : ℕ) → bit_at bits k ≡ 1 → ((i : ℕ) → i < k → bit_at bits i ≡ 0) → bit_at clear k ≡ 0 → ((i : ℕ) → i ≢ k → bit_at clear i ≡ bit_at bits i) → k < size.columns →
    filter (λ (q : Point). bit_at bits q.column == 1) (row_of size row) ≡ record { column = k; row = row } ∷ filter (λ (q : Point). bit_at clear q.column == 1) (row_of size row)
unfolding kept
row-first size row bits clear k set none gone others inside =
    kept-first (λ i. bit_at bits i == 1) (λ i. bit_at clear i == 1) row k 0 size.columns (is-one (bit_at bits k) 1 set) (is-none (bit_at clear k) gone)
    (λ i low. is-none (bit_at bits i) (none i low)) (λ i other. ap (λ n. n == 1) (others i other)) (omega arith) (omega arith)

filter_none : {X : Type 0} (xs : List X) → filter (λ x. false) xs ≡ []
filter_none [] = refl
filter_none (x ∷ xs) = filter_none xs

-- no bits, no points
pub row-none : (size : Extent) (row bits : ℕ) → bits ≡ 0 → filter (λ (q : Point). bit_at bits q.column == 1) (row_of size row) ≡ []
row-none size row bits none =
    filter_agree (λ (q : Point). bit_at bits q.column == 1) (λ q. false) (λ q. is-none (bit_at bits q.column) (ap (λ n. bit_at n q.column) none ∙ bit_at-zero q.column)) (row_of size row)
    ∙ filter_none (row_of size row)

row_is : (set : List ℕ) (row : ℕ) (columns : List ℕ) →
    filter (is_in_set set) (map (λ column. record { column = column; row = row }) columns)
    ≡ filter (λ q. bit_at (slice_index set row) q.column == 1) (map (λ column. record { column = column; row = row }) columns)
row_is set row [] = refl
row_is set row (column ∷ columns) =
    ap (λ ps. cond (bit_at (slice_index set row) column == 1) (record { column = column; row = row } ∷ ps) ps) (row_is set row columns)

-- the points of the next row, and those of the others
pub rows-first : (set : List ℕ) (size : Extent) (row last : ℕ) → row < last →
    filter (is_in_set set) (flat_map (row_of size) (count_from row (last - row)))
    ≡ filter (λ q. bit_at (slice_index set row) q.column == 1) (row_of size row) ++ filter (is_in_set set) (flat_map (row_of size) (count_from (row + 1) (last - (row + 1))))
rows-first set size row last inside =
    ap (λ rows. filter (is_in_set set) (flat_map (row_of size) rows)) (count_from-first last row inside)
    ∙ filter-append (is_in_set set) (row_of size row) (flat_map (row_of size) (count_from (row + 1) (last - (row + 1))))
    ∙ ap (λ ps. ps ++ filter (is_in_set set) (flat_map (row_of size) (count_from (row + 1) (last - (row + 1))))) (row_is set row (count_from 0 size.columns))

-- ---- the lowest bit of a number

-- a number without its lowest bit
abbrev pub cleared : ℕ → ℕ
cleared n = bit_and n (bit_not w64 (1 * 2 ^ trailing_zeros w64 n % 2 ^ 64))

pub record IsLowest (n k : ℕ) : Type 0 where
  pub within : k < 64
  pub set : bit_at n k ≡ 1
  pub none : (i : ℕ) → i < k → bit_at n i ≡ 0
  pub gone : bit_at (cleared n) k ≡ 0
  pub others : (i : ℕ) → i ≢ k → bit_at (cleared n) i ≡ bit_at n i
  pub below : cleared n < n

pub lowest : (n : ℕ) → n ≢ 0 → n < 2 ^ 64 → IsLowest n (trailing_zeros w64 n)
lowest n some fits =
    let k = trailing_zeros w64 n in
    let bit = bit_at-trailing_zeros w64 n (omega (arith, some)) fits in
    let gone = bit_at_clear_same w64 n k bit.0 in
    let few = and_le_l n (bit_not w64 (1 * 2 ^ k % 2 ^ 64)) in
    record {
      within = bit.0;
      set = bit.1;
      none = bit.2;
      gone = gone;
      others = λ i other. ⊎_elim
          (λ (low : i < 64). bit_at_clear_other w64 n k bit.0 i low other)
          (λ (high : 64 ≤ i). bit_at_above (cleared n) 64 i (omega (arith, few)) high ∙ sym (bit_at_above n 64 i fits high))
          (cases_lt i 64);
      below = ⊎_elim
          (λ (same : cleared n ≡ n). absurd (omega (arith, sym gone ∙ ap (λ m. bit_at m k) same ∙ bit.1)))
          (λ (other : cleared n ≡ n → ⊥). omega (arith, few, other))
          (cases_eq (cleared n) n);
    }

-- a bit of a row is a column of the board
pub column-inside : (n k columns : ℕ) → bit_at n k ≡ 1 → n < 2 ^ columns → k < columns
column-inside n k columns set small =
    ⊎_elim
    (λ (inside : k < columns). inside)
    (λ (outside : columns ≤ k). absurd (omega (arith, sym set ∙ bit_at_above n columns k small outside)))
    (cases_lt k columns)

pub fits-columns : (n columns : ℕ) → n < 2 ^ columns → columns ≤ 52 → n < 2 ^ 64
fits-columns n columns small few = omega (arith, small, pow_mono {i = columns} {j = 52} few)
