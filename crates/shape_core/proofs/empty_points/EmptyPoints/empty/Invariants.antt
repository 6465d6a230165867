use Rattle.std.proofs.Common.{take, All}
use Rattle.go_board.specs.Extent.{Extent, IsExtent}
use Rattle.go_board.specs.Point.{IsOn}
use Rattle.go_board.specs.Position.{Position}
use Rattle.shape_core.specs.Inner.EmptyPoints.{AreEmpty, RowsOf}
use Rattle.shape_core.specs.Inner.KeptLists.{emptied}
use Rattle.shape_core.proofs.empty_points.EmptyPoints.empty.Given as goal

abbrev pub invariant-loop-point : goal.invariant-loop-point
invariant-loop-point l = record {
  rows : (size : Extent) → RowsOf size l.initial.self.rows.items → RowsOf size l.self.rows.items;
  follow : (size : Extent) → (position : Position) → IsExtent size → All (IsOn size) l.points → AreEmpty size position l.initial.self.rows.items
      → AreEmpty size (emptied position (take l.point-index l.points)) l.self.rows.items;
}
