-- An empty field for these kinds of pattern.
use Rattle.std.specs.Prelude.{◌≡◌}
use Rattle.go_board.specs.Board.{position_of, IsBoard}
use Rattle.go_board.specs.Point.{IsOn}
use Rattle.go_board.specs.declared.points.Point.{Point}
use Rattle.go_board.specs.declared.points.Stone.TheVariants as stone
use Rattle.shape_core.specs.Field.{Kept}
use Rattle.shape_core.specs.declared.words.Kinds.{Kinds}

-- it keeps the words of these kinds, and each of its points is empty
pub record IsBlank (kinds : Kinds) (field : Kept) : Type 0 where
  pub keeps : field.kinds ≡ kinds
  pub board : IsBoard field.board
  pub empty : (q : Point) → IsOn field.board.size q → position_of field.board q ≡ stone.Empty
