-- What a field is, and what its words and marks are.
use Rattle.std.specs.Prelude.{◌≡◌, ℕ, ◌+◌, ◌^◌, ◌<◌, ◌≤◌, ◌⊎◌, List, length, slice_index, bit_or, Contains}
use Rattle.std.specs.Int.{bit_at}
use Rattle.go_board.specs.Extent.{Extent}
use Rattle.go_board.specs.Point.{IsOn}
use Rattle.go_board.specs.Board.{Stones, position_of}
use Rattle.go_board.specs.Position.{Position}
use Rattle.go_board.specs.declared.points.Point.{Point}
use Rattle.go_board.specs.declared.points.Stone.{Stone}
use Rattle.go_board.specs.declared.points.Stone.TheVariants as stone
use Rattle.shape_core.specs.declared.words.Kind.{Kind}
use Rattle.shape_core.specs.declared.words.Kind.TheVariants as kind
use Rattle.shape_core.specs.declared.words.Kinds.{Kinds}
use Rattle.shape_core.specs.declared.words.Kinds.TheVariants as kinds
use Rattle.shape_core.specs.Around.{word_around}

-- a board, the kinds of pattern that are kept, and the marks: for each row a number with a bit for each column
pub record Kept : Type 0 where
  pub board : Stones
  pub kinds : Kinds
  pub changed : List ℕ

-- these kinds have this one among them
abbrev pub Includes : Kinds → Kind → Type 0
Includes kinds.Both _ = Unit {0}
Includes kinds.Squares kind.Square = Unit {0}
Includes kinds.Squares kind.Diamond = ⊥

-- the point's bit in its row is set
abbrev pub IsMarked : List ℕ → Point → Type 0
IsMarked changed p = bit_at (slice_index changed p.row) p.column ≡ 1

-- what was marked is, and so is each point whose word of a kept kind is another than before
pub record MarksChanges (before after : Kept) : Type 0 where
  pub stay : (q : Point) → IsMarked before.changed q → IsMarked after.changed q
  pub differing :
      (kind : Kind) → Includes before.kinds kind → (q : Point) → IsOn before.board.size q →
      (word_around kind before.board.size (position_of after.board) q ≡ word_around kind before.board.size (position_of before.board) q)
      ⊎ IsMarked after.changed q

-- 1 for an empty point
abbrev pub bit_of_empty : Stone → ℕ
bit_of_empty stone.Empty = 1
bit_of_empty stone.Black = 0
bit_of_empty stone.White = 0

-- the bits of a row of a position are those of its empty points
pub record AreEmptyColumns (size : Extent) (position : Position) (row bits : ℕ) : Type 0 where
  pub few : bits < 2 ^ size.columns
  pub each : (column : ℕ) → column < size.columns → bit_at bits column ≡ bit_of_empty (position (record { column = column; row = row }))

-- how many columns, and how many rows, the cells of these kinds are away from their point at most
abbrev pub reach_of : Kinds → ℕ
reach_of kinds.Squares = 2
reach_of kinds.Both = 3

-- two points are at most this number of columns apart, and of rows
abbrev pub AreWithin : ℕ → Point → Point → Type 0
AreWithin reach p q =
    (p.column ≤ q.column + reach) × (q.column ≤ p.column + reach) × (p.row ≤ q.row + reach) × (q.row ≤ p.row + reach)

-- one of these points is within this reach of q
abbrev pub IsNear : ℕ → List Point → Point → Type 0
IsNear reach points q = (p : Point) × Contains points p × AreWithin reach p q

-- each point that is marked was marked before, or is within this reach of one of these points
abbrev pub MarksNear : ℕ → List Point → List ℕ → List ℕ → Type 0
MarksNear reach points before after = (q : Point) → IsMarked after q → IsMarked before q ⊎ IsNear reach points q

-- a set of points as bits of rows, once these marks have joined it
pub record AreJoined (marks before after : List ℕ) : Type 0 where
  pub rows : length after ≡ length before
  pub joined : (row : ℕ) → slice_index after row ≡ bit_or (slice_index before row) (slice_index marks row)
