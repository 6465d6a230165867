-- Definitions that private contracts alone use, beside those of `Gathered`.
use Rattle.std.specs.Prelude.{◌≡◌, ℕ, ◌*◌, ◌≤◌, Bool, true, false, List, length, take, slice_index_or, All, Contains}
use Rattle.go_board.specs.declared.points.Point.{Point}
use Rattle.go_board.specs.Extent.{Extent}
use Rattle.go_board.specs.Point.{IsOn, index_of}
use Rattle.go_board.specs.Gathered.{IsGathered}

-- a board's size and some of its points, in the order in which they came
pub record Gathered : Type 0 where
  pub size : Extent
  pub points : List Point

-- the mark at a point
abbrev pub IsMarked : Extent → List Bool → Point → Type 0
IsMarked size marks p = slice_index_or marks (index_of size p) false ≡ true

-- the points of the list are marked, and no others of the board
pub record MarksThese (size : Extent) (marks : List Bool) (points : List Point) : Type 0 where
  pub each : All (IsMarked size marks) points
  pub only : (q : Point) → IsOn size q → IsMarked size marks q → Contains points q

-- room for each point of the board, of which the first `count` are in the set
pub record IsPointSet (size : Extent) (marks : List Bool) (members : List Point) (count : ℕ) : Type 0 where
  pub room : length members ≡ size.columns * size.rows
  pub all_marks : length marks ≡ size.columns * size.rows
  pub within : count ≤ length members
  pub gathered : IsGathered size (take count members)
  pub marked : MarksThese size marks (take count members)
