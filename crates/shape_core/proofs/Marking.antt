-- Marks of points, and their places in lists of a board's points.
use Rattle.std.proofs.Common.{◌≡◌, ℕ, ◌+◌, ◌-◌, ◌*◌, ◌^◌, max, pow-add, ◌<◌, ◌≤◌, List, length, slice_index, slice_set, bit_or, sym, ap, ap₂, ◌∙◌, arith, ⊎_elim, ◌⊎◌, inl, inr, length-set, get_or-set_same, get_or-set_other}
use Rattle.std.proofs.Common.{◌%◌}
use Rattle.std.specs.Int.{bit_at}
use Rattle.std.proofs.lemmas.Bool.{cases_eq, cases_lt}
use Rattle.std.proofs.lemmas.Nat.{or_lt, pow_below, pow_pos, same_from_place}
use Rattle.std.proofs.lemmas.Nat.Bits.{bit_at_or, bit_at-lt, bit_at_ones, bit_at_cat_low, bit_at_cat_high, bit_at_above, bit_at-zero}
use Rattle.std.proofs.lemmas.List.Elements.{All-set, All-get_or, All-from_get_or}
use Rattle.go_board.specs.Extent.{Extent}
use Rattle.go_board.specs.Point.{IsOn, index_of}
use Rattle.go_board.specs.declared.points.Point.{Point}
use Rattle.shape_core.specs.Field.{IsMarked}
use Rattle.shape_core.specs.KeptLists.{AreMarks}

-- points of one place are one
pub same_point_from : (p q : Point) → p.column ≡ q.column → p.row ≡ q.row → p ≡ q
same_point_from p q column row =
    let at : ℕ → ℕ → Point = λ c r. record { column = c; row = r } in
    ap₂ at column row

pub same_from_index : (size : Extent) (p q : Point) → IsOn size p → IsOn size q → index_of size p ≡ index_of size q → p ≡ q
same_from_index size p q on_p on_q e =
    let parts = same_from_place p.row p.column q.row q.column size.columns on_p.0 on_q.0 e in
    same_point_from p q parts.1 parts.0

-- the bits from one on, before another
abbrev pub run : ℕ → ℕ → ℕ
run left end = 2 ^ end - 2 ^ left

product_less : (m p e : ℕ) → e ≡ (m + 1) * p → e - p ≡ m * p + 0
product_less m p e h = omega (arith, h)

run_is : (left end : ℕ) → left ≤ end → run left end ≡ (2 ^ (end - left) - 1) * 2 ^ left + 0
run_is left end h =
    let split : 2 ^ end ≡ 2 ^ (end - left) * 2 ^ left = ap (λ n. 2 ^ n) (omega arith) ∙ pow-add 2 (end - left) left in
    let one : 2 ^ (end - left) ≡ 2 ^ (end - left) - 1 + 1 = omega (arith, pow_pos (end - left)) in
    product_less (2 ^ (end - left) - 1) (2 ^ left) (2 ^ end) (split ∙ ap (λ x. x * 2 ^ left) one)

pub run_in : (left end i : ℕ) → left ≤ i → i < end → bit_at (run left end) i ≡ 1
run_in left end i low high =
    ap (λ n. bit_at n i) (run_is left end (omega arith))
    ∙ bit_at_cat_high (2 ^ (end - left) - 1) left 0 i (pow_pos left) low
    ∙ bit_at_ones (end - left) (i - left) (omega arith)

pub run_only : (left end i : ℕ) → left ≤ end → bit_at (run left end) i ≡ 1 → (left ≤ i) × (i < end)
run_only left end i h is =
    ⊎_elim
    (λ (low : i < left).
    absurd (omega (arith, sym is ∙ ap (λ n. bit_at n i) (run_is left end h) ∙ bit_at_cat_low (2 ^ (end - left) - 1) left 0 i low ∙ bit_at-zero i)))
    (λ (from : left ≤ i). ⊎_elim
    (λ (before : i < end). (from, before))
    (λ (past : end ≤ i). absurd (omega (arith, is, bit_at_above (run left end) end i (omega (arith, pow_pos left, pow_pos end)) past)))
    (cases_lt i end))
    (cases_lt i left)

-- the number that the program makes of two powers
pub run_narrowed : (left end : ℕ) → left ≤ end → end < 64 → 1 * 2 ^ end % 2 ^ 64 - 1 * 2 ^ left % 2 ^ 64 ≡ run left end
run_narrowed left end h few = omega (arith, pow_below end 64 few, pow_below left 64 (omega arith))

-- the marks with those of these bits of a row
abbrev pub marked : List ℕ → ℕ → ℕ → List ℕ
marked changed row bits = slice_set changed row (bit_or (slice_index changed row) bits)

pub AreMarks-marked : (size : Extent) (changed : List ℕ) (row bits : ℕ) → AreMarks size changed → row < length changed → bits < 2 ^ size.columns → AreMarks size (marked changed row bits)
AreMarks-marked size changed row bits are h few =
    let old = All-get_or (λ row. row < 2 ^ size.columns) changed row 0 h are.within in
    record {
      rows = length-set changed row (bit_or (slice_index changed row) bits) ∙ are.rows;
      within = All-set (λ row. row < 2 ^ size.columns) changed row (bit_or (slice_index changed row) bits)
          (or_lt size.columns (slice_index changed row) bits old few) are.within;
    }

-- a bit of the row that the marks are in, and of another
marked_here : (changed : List ℕ) (row bits : ℕ) (q : Point) → row < length changed → q.row ≡ row →
    bit_at (slice_index (marked changed row bits) q.row) q.column ≡ max (bit_at (slice_index changed q.row) q.column) (bit_at bits q.column)
marked_here changed row bits q h same =
    ap (λ r. bit_at (slice_index (marked changed row bits) r) q.column) same
    ∙ ap (λ n. bit_at n q.column) (get_or-set_same changed row (bit_or (slice_index changed row) bits) 0 h)
    ∙ bit_at_or (slice_index changed row) bits q.column
    ∙ ap (λ r. max (bit_at (slice_index changed r) q.column) (bit_at bits q.column)) (sym same)

marked_elsewhere : (changed : List ℕ) (row bits : ℕ) (q : Point) → (q.row ≡ row → ⊥) →
    bit_at (slice_index (marked changed row bits) q.row) q.column ≡ bit_at (slice_index changed q.row) q.column
marked_elsewhere changed row bits q other =
    ap (λ n. bit_at n q.column) (get_or-set_other changed row q.row (bit_or (slice_index changed row) bits) 0 other)

pub marked_there : (changed : List ℕ) (row bits : ℕ) (q : Point) → row < length changed → q.row ≡ row → bit_at bits q.column ≡ 1 → IsMarked (marked changed row bits) q
marked_there changed row bits q h same set =
    marked_here changed row bits q h same ∙ (omega (arith, set, bit_at-lt (slice_index changed q.row) q.column))

pub marked_stay : (changed : List ℕ) (row bits : ℕ) (q : Point) → row < length changed → IsMarked changed q → IsMarked (marked changed row bits) q
marked_stay changed row bits q h was =
    ⊎_elim
    (λ (same : q.row ≡ row). marked_here changed row bits q h same ∙ (omega (arith, was, bit_at-lt bits q.column)))
    (λ (other : q.row ≡ row → ⊥). marked_elsewhere changed row bits q other ∙ was)
    (cases_eq q.row row)

-- no other is marked besides
pub marked_only : (changed : List ℕ) (row bits : ℕ) (q : Point) → row < length changed → IsMarked (marked changed row bits) q → IsMarked changed q ⊎ ((q.row ≡ row) × (bit_at bits q.column ≡ 1))
marked_only changed row bits q h is =
    ⊎_elim
    (λ (same : q.row ≡ row).
    let both = sym (marked_here changed row bits q h same) ∙ is in
    ⊎_elim
    (λ (set : bit_at bits q.column ≡ 1). inr (same, set))
    (λ (clear : bit_at bits q.column ≡ 1 → ⊥). inl (omega (arith, both, clear, bit_at-lt bits q.column)))
    (cases_eq (bit_at bits q.column) 1))
    (λ (other : q.row ≡ row → ⊥). inl (sym (marked_elsewhere changed row bits q other) ∙ is))
    (cases_eq q.row row)

-- no marks at all
pub AreMarks-none : (size : Extent) (changed : List ℕ) → length changed ≡ size.rows → ((k : ℕ) → k < length changed → slice_index changed k ≡ 0) → AreMarks size changed
AreMarks-none size changed rows none = record {
  rows = rows;
  within = All-from_get_or (λ row. row < 2 ^ size.columns) changed 0 (λ i inside. omega (arith, none i inside, pow_pos size.columns));
}
