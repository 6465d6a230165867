-- The empty points of a board, as bits of its rows.
use Rattle.std.specs.Prelude.{◌≡◌, ℕ, List, length, slice_index}
use Rattle.std.specs.Int.{bit_at}
use Rattle.go_board.specs.Extent.{Extent, IsExtent}
use Rattle.go_board.specs.Point.{IsOn}
use Rattle.go_board.specs.Position.{Position}
use Rattle.go_board.specs.declared.points.Point.{Point}
use Rattle.shape_core.specs.Field.{bit_of_empty}
use Rattle.shape_core.specs.KeptLists.{AreMarks}

-- a row for each row of a board
pub record RowsOf (size : Extent) (rows : List ℕ) : Type 0 where
  pub extent : IsExtent size
  pub count : length rows ≡ size.rows

-- a bit is set for each empty point of the board, and for no other
pub record AreEmpty (size : Extent) (position : Position) (rows : List ℕ) : Type 0 where
  pub marks : AreMarks size rows
  pub each : (q : Point) → IsOn size q → bit_at (slice_index rows q.row) q.column ≡ bit_of_empty (position q)
