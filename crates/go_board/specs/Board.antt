-- What a board is: its size, the stones row by row from the top, each row from the left, and the points that
-- the last move emptied.
use Rattle.std.specs.Prelude.{◌≡◌, ◌*◌, List, length}
use Rattle.go_board.specs.declared.points.Point.{Point}
use Rattle.go_board.specs.Extent.{Extent, IsExtent}
use Rattle.go_board.specs.declared.points.Stone.{Stone}
use Rattle.go_board.specs.Gathered.{IsGathered}
use Rattle.go_board.specs.Position.{Position, position_in}

-- a size, a stone or none for each point, and the removed points
pub record Stones : Type 0 where
  pub size : Extent
  pub stones : List Stone
  pub removed : List Point

-- the position that the stones are
abbrev pub position_of : Stones → Position
position_of board = position_in board.size board.stones

-- what is true of every board: a stone or none for each point, and the removed points are on it, each once
pub record IsBoard (board : Stones) : Type 0 where
  pub extent : IsExtent board.size
  pub whole : length board.stones ≡ board.size.columns * board.size.rows
  pub removed : IsGathered board.size board.removed
