-- What is true of the words that a field keeps: that they have room for a board's, of which position they are, and
-- what a change does to them.
use Rattle.std.specs.Prelude.{◌≡◌, ◌*◌, length}
use Rattle.go_board.specs.Extent.{IsExtent}
use Rattle.go_board.specs.Position.{Position}
use Rattle.go_board.specs.Board.{Stones, IsBoard, position_of}
use Rattle.go_board.specs.declared.points.Point.{Point}
use Rattle.shape_core.specs.declared.kept.KeptWords.{KeptWords}
use Rattle.shape_core.specs.declared.words.Kind.TheVariants as kind
use Rattle.shape_core.specs.declared.words.Kinds.TheVariants as which
use Rattle.shape_core.specs.Field.{IsMarked}
use Rattle.shape_core.specs.KeptLists.{AreMarks}
use Rattle.shape_core.specs.declared.empty_points.EmptyPoints.{EmptyPoints}
use Rattle.shape_core.specs.Inner.EmptyPoints.{AreEmpty}
use Rattle.shape_core.specs.Inner.KeptLists.{AreWords, AreOfKind, DifferingAreMarked}

-- a word of each kept kind and a mark for each point of a board
pub record HasRoom (kept : KeptWords) : Type 0 where
  pub extent : IsExtent kept.size
  pub squares_count : length kept.squares.items ≡ kept.size.columns * kept.size.rows
  pub diamonds_count : kept.kinds ≡ which.Both → length kept.diamonds.items ≡ kept.size.columns * kept.size.rows
  pub squares_kind : AreOfKind kind.Square kept.squares.items
  pub diamonds_kind : kept.kinds ≡ which.Both → AreOfKind kind.Diamond kept.diamonds.items
  pub marks : AreMarks kept.size kept.changed.items

-- the words of the kinds that are kept are those of a position
pub record Follows (kept : KeptWords) (position : Position) : Type 0 where
  pub squares_follow : AreWords kind.Square kept.size position kept.squares.items
  pub diamonds_follow : kept.kinds ≡ which.Both → AreWords kind.Diamond kept.size position kept.diamonds.items

-- what was marked is, and so is each point of which a kept word is another than before
pub record Changes (before after : KeptWords) : Type 0 where
  pub size : after.size ≡ before.size
  pub kinds : after.kinds ≡ before.kinds
  pub stay : (q : Point) → IsMarked before.changed.items q → IsMarked after.changed.items q
  pub squares : DifferingAreMarked before.size before.squares.items after.squares.items after.changed.items
  pub diamonds :
      before.kinds ≡ which.Both →
      DifferingAreMarked before.size before.diamonds.items after.diamonds.items after.changed.items

-- a board, the words kept of it and its empty points
pub record IsField (board : Stones) (kept : KeptWords) (empties : EmptyPoints) : Type 0 where
  pub is_board : IsBoard board
  pub same_size : kept.size ≡ board.size
  pub room : HasRoom kept
  pub follow : Follows kept (position_of board)
  pub are_empty : AreEmpty board.size (position_of board) empties.rows.items
