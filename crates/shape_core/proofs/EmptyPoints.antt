-- Bits of a row for its empty points.
use Rattle.std.proofs.Common.{◌≡◌, ◌≢◌, ℕ, ◌-◌, ◌*◌, ◌%◌, ◌^◌, ◌<◌, ◌≤◌, List, replicate, slice_index, slice_set, sym, ap, ◌∙◌, arith, ⊎_elim, length-set, get_or-set_same, get_or-set_other}
use Rattle.std.specs.Int.{bit_at}
use Rattle.std.proofs.lemmas.Bool.{cases_eq}
use Rattle.std.proofs.lemmas.List.{get_or-replicate, length-replicate}
use Rattle.std.proofs.lemmas.List.Elements.{All-set, All-replicate}
use Rattle.std.proofs.lemmas.Nat.{pow_pos, pow_below}
use Rattle.std.proofs.lemmas.Nat.Bits.{bit_at_ones}
use Rattle.go_board.specs.declared.points.Stone.TheVariants as stone
use Rattle.go_board.specs.Extent.{Extent}
use Rattle.go_board.specs.Point.{IsOn}
use Rattle.go_board.specs.Position.{Position, placed}
use Rattle.go_board.specs.declared.points.Point.{Point}
use Rattle.go_board.specs.declared.points.Stone.{Stone}
use Rattle.shape_core.specs.Field.{bit_of_empty}
use Rattle.shape_core.specs.Inner.EmptyPoints.{AreEmpty}
use Rattle.shape_core.proofs.Agreeing.{Agree}
use Rattle.shape_core.proofs.Marking.{same_point_from}
use Rattle.shape_core.proofs.Mixing.{placed_there, placed_other}

-- a row whose bits differ in the one of a point follows what is put there
pub put-row : (size : Extent) (position : Position) (rows : List ℕ) (p : Point) (s : Stone) (n : ℕ) → IsOn size p → n < 2 ^ size.columns →
    bit_at n p.column ≡ bit_of_empty s → ((i : ℕ) → i < size.columns → i ≢ p.column → bit_at n i ≡ bit_at (slice_index rows p.row) i) →
    AreEmpty size position rows → AreEmpty size (placed position p s) (slice_set rows p.row n)
put-row size position rows p s n on few here others are =
    let at = get_or-set_same rows p.row n 0 (omega (arith, are.marks.rows, on.1)) in
    record {
      marks = record {
        rows = length-set rows p.row n ∙ are.marks.rows;
        within = All-set (λ r. r < 2 ^ size.columns) rows p.row n few are.marks.within;
      };
      each = λ q on_q.
          ⊎_elim
          (λ (row : q.row ≡ p.row).
          ap (λ r. bit_at (slice_index (slice_set rows p.row n) r) q.column) row
          ∙ ap (λ m. bit_at m q.column) at
          ∙ ⊎_elim
          (λ (column : q.column ≡ p.column).
          let same = same_point_from q p column row in
          ap (bit_at n) column ∙ here ∙ ap bit_of_empty (sym (ap (placed position p s) same ∙ placed_there position p s)))
          (λ (apart : q.column ≡ p.column → ⊥).
          others q.column on_q.0 apart
          ∙ ap (λ r. bit_at (slice_index rows r) q.column) (sym row)
          ∙ are.each q on_q
          ∙ ap bit_of_empty (sym (placed_other position p q s (λ both. apart both.0))))
          (cases_eq q.column p.column))
          (λ (other : q.row ≡ p.row → ⊥).
          ap (λ m. bit_at m q.column) (get_or-set_other rows p.row q.row n 0 other)
          ∙ are.each q on_q
          ∙ ap bit_of_empty (sym (placed_other position p q s (λ both. other both.1))))
          (cases_eq q.row p.row);
    }

-- a bit for each column
pub row-full : (columns : ℕ) → columns ≤ 52 → 1 * 2 ^ columns % 2 ^ 64 - 1 ≡ 2 ^ columns - 1
row-full columns few = omega (arith, pow_below columns 64 (omega arith))

-- all points are empty
pub all-empty : (size : Extent) (position : Position) (rows : List ℕ) → rows ≡ replicate size.rows (2 ^ size.columns - 1) →
    ((q : Point) → IsOn size q → position q ≡ stone.Empty) → AreEmpty size position rows
all-empty size position rows is none =
    let full = 2 ^ size.columns - 1 in
    record {
      marks = rw is (record {
        rows = length-replicate size.rows full;
        within = All-replicate (λ row. row < 2 ^ size.columns) size.rows full (omega (arith, pow_pos size.columns));
      });
      each = λ q on.
          ap (λ set. bit_at (slice_index set q.row) q.column) is
          ∙ ap (λ n. bit_at n q.column) (get_or-replicate size.rows q.row full 0 on.1)
          ∙ bit_at_ones size.columns q.column on.0
          ∙ ap bit_of_empty (sym (none q on));
    }

-- they are those of any position that agrees on the board
pub AreEmpty-agree : (size : Extent) (p q : Position) (rows : List ℕ) → Agree size p q → AreEmpty size p rows → AreEmpty size q rows
AreEmpty-agree size p q rows same are = record { marks = are.marks; each = λ r on. are.each r on ∙ ap bit_of_empty (same r on) }
