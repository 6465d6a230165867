-- A side before the first action.
use Rattle.std.proofs.Common.{◌≡◌, ℕ, ◌-◌, ◌*◌, ◌%◌, ◌^◌, ◌<◌, ◌≤◌, length, replicate, slice_index, slice_index_or, All, List, [], inl, ap, sym, subst, ◌∙◌, arith, mul-zero}
use Rattle.std.specs.Prelude.{sum_by}
use Rattle.std.specs.Int.{bit_at}
use Rattle.std.proofs.lemmas.List.{get_or-replicate, length-replicate}
use Rattle.std.proofs.lemmas.List.Elements.{All-replicate}
use Rattle.std.proofs.lemmas.List.Folds.{sum_by-replicate}
use Rattle.std.proofs.lemmas.Nat.{pow_pos, pow_below}
use Rattle.std.proofs.lemmas.Nat.Bits.{bit_at_ones}
use Rattle.go_board.specs.Extent.{Extent}
use Rattle.go_board.specs.Point.{index_of}
use Rattle.go_board.specs.Position.{Position}
use Rattle.go_board.specs.declared.points.Colour.{Colour}
use Rattle.shape_core.specs.declared.words.Kinds.{Kinds}
use Rattle.shape_core.specs.KeptLists.{AreMarks}
use Rattle.tally_core.specs.Inner.Standing.{AreStays, waits_at, no_stays, IsSide, IsNewSide}
use Rattle.tally_core.specs.declared.stays.Stays.{Stays}
use Rattle.tally_core.specs.declared.sides.Side.{Side}
use Rattle.tally_core.proofs.Seeing.{index-inside}

-- a bit for each column
pub row-full : (columns : ℕ) → columns ≤ 52 → 1 * 2 ^ columns % 2 ^ 64 - 1 ≡ 2 ^ columns - 1
row-full columns few = omega (arith, pow_below columns 64 (omega arith))

pub new-side : (size : Extent) (side : Side) → side.occasions ≡ 0 → side.changed.items ≡ replicate size.rows (2 ^ size.columns - 1) →
    side.standing.items ≡ replicate size.rows 0 → side.points.items ≡ replicate (size.columns * size.rows) no_stays → IsNewSide size side
new-side size side occasions changed standing points =
    let full = 2 ^ size.columns - 1 in
    let area = size.columns * size.rows in
    let marks : AreMarks size (replicate size.rows full) = record {
      rows = length-replicate size.rows full;
      within = All-replicate (λ row. row < 2 ^ size.columns) size.rows full (omega (arith, pow_pos size.columns));
    } in
    record {
      occasions = occasions;
      standing = record {
        room = ap length points ∙ length-replicate area no_stays;
        marks = subst (AreMarks size) (sym changed) marks;
        standing = rw standing (record {
          rows = length-replicate size.rows 0;
          within = All-replicate (λ row. row < 2 ^ size.columns) size.rows 0 (pow_pos size.columns);
        });
        nothing = λ q on none.
            ap (λ all. slice_index_or all (index_of size q) no_stays) points
            ∙ get_or-replicate area (index_of size q) no_stays no_stays (index-inside size q on);
        stays = subst (λ n. All (AreStays 0 n) side.points.items) (sym occasions)
            (subst (All (AreStays 0 0)) (sym points) (All-replicate (AreStays 0 0) area no_stays (record { square = tt; diamond = tt })));
      };
      nothing = λ shapes shape.
          let f = λ (stays : Stays). waits_at shapes 0 stays shape in
          ap (sum_by f) points ∙ sum_by-replicate f area no_stays ∙ mul-zero area;
      all = λ q on.
          ap (λ set. bit_at (slice_index set q.row) q.column) changed
          ∙ ap (λ n. bit_at n q.column) (get_or-replicate size.rows q.row full 0 on.1)
          ∙ bit_at_ones size.columns q.column on.0;
    }

-- before anything was met it is a side of any position: each point is to be looked at
pub side-begins : (kinds : Kinds) (size : Extent) (position : Position) (mover : Colour) (shapes : List ℕ) (side : Side) → shapes ≡ [] → IsNewSide size side →
    IsSide kinds size position mover shapes side
side-begins kinds size position mover shapes side none new = record {
  standing = rw none new.standing;
  pending = λ q on. inl (new.all q on);
}
