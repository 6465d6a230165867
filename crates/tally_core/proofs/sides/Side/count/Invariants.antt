use Rattle.std.proofs.Common.{◌≡◌, ◌≤◌, ◌-◌, ℕ, filter, slice_index}
use Rattle.std.specs.List.{flat_map}
use Rattle.shape_core.specs.Word.{count_from}
use Rattle.tally_core.specs.Counts.{row_of}
use Rattle.tally_core.specs.Inner.Standing.{is_in_set}
use Rattle.tally_core.specs.Inner.Sight.{HasLooked}
use Rattle.tally_core.proofs.sides.Side.count.Given as goal

-- the points of the rows that are left are still to be looked at
abbrev pub invariant-loop-row : goal.invariant-loop-row
invariant-loop-row l = let size = l.field.board.size in let points = λ (first : ℕ). filter (is_in_set l.fn.self.changed.items) (flat_map (row_of size) (count_from first (l.row-end - first))) in record {
  same : (k : ℕ) → l.row ≤ k → slice_index l.self.changed.items k ≡ slice_index l.fn.self.changed.items k;
  looked : HasLooked l.field l.mover (points 0) (points l.row) l.fn.meetings l.fn.self l.meetings l.self;
}
