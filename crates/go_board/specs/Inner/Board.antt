-- Definitions that private contracts alone use, beside those of `Board`.
use Rattle.std.specs.Prelude.{◌≡◌, ◌*◌, List, length}
use Rattle.go_board.specs.Extent.{Extent, IsExtent}
use Rattle.go_board.specs.declared.points.Stone.{Stone}
use Rattle.go_board.specs.Gathered.{IsGathered}
use Rattle.go_board.specs.Inner.Gathered.{Gathered}

-- the lists that hold a board, with a set to find groups with
pub record IsHeld (size : Extent) (stones : List Stone) (group_size : Extent) (removed : Gathered) : Type 0 where
  pub extent : IsExtent size
  pub whole : length stones ≡ size.columns * size.rows
  pub group_sized : group_size ≡ size
  pub removed_sized : removed.size ≡ size
  pub gathered : IsGathered size removed.points
