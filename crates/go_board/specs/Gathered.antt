-- Sets of points of a board, as lists in which no point comes twice.
use Rattle.std.specs.Prelude.{◌≢◌, List, All}
use Rattle.std.specs.List.{AllPairs}
use Rattle.go_board.specs.declared.points.Point.{Point}
use Rattle.go_board.specs.Extent.{Extent}
use Rattle.go_board.specs.Point.{IsOn}

-- each point is on the board, and comes once
pub record IsGathered (size : Extent) (points : List Point) : Type 0 where
  pub on_board : All (IsOn size) points
  pub once : AllPairs (λ p q. p ≢ q) points
