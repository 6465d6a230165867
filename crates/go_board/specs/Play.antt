-- What a move does, by the rule of capture: the stone is placed, then the other colour's stones next to it that have
-- no liberty are removed, then its own group if that has none.
use Rattle.std.specs.Prelude.{◌≡◌, ◌≢◌, ℕ, ◌+◌, List, length, ◌⊎◌, Bool, true, false, count_by, All, Contains}
use Rattle.std.specs.List.{AllPairs}
use Rattle.go_board.specs.declared.points.Point.{Point}
use Rattle.go_board.specs.Extent.{Extent}
use Rattle.go_board.specs.declared.points.Colour.{Colour}
use Rattle.go_board.specs.declared.points.Colour.TheVariants as colour
use Rattle.go_board.specs.declared.points.Stone.{Stone}
use Rattle.go_board.specs.declared.points.Stone.TheVariants as stone
use Rattle.go_board.specs.declared.boards.Played.{Played}
use Rattle.go_board.specs.Point.{IsOn, AreNeighbours}
use Rattle.go_board.specs.Position.{Position, placed, AreJoined, IsAlive}
use Rattle.go_board.specs.Board.{Stones, position_of}

-- the stone that a colour plays
abbrev pub stone_of : Colour → Stone
stone_of colour.Black = stone.Black
stone_of colour.White = stone.White

-- the colour of the opponent
abbrev pub other : Colour → Colour
other colour.Black = colour.White
other colour.White = colour.Black

-- `after` is `before` without the stones of which P holds
abbrev pub Removes : Extent → (Point → Type 0) → Position → Position → Type 0
Removes size P before after =
    (q : Point) → IsOn size q → (P q × (after q ≡ stone.Empty)) ⊎ ((P q → ⊥) × (after q ≡ before q))

-- q is captured by a move of this colour at a point: it is a stone of the other colour, joined to a neighbour of
-- the point, and not alive
pub record IsCaptured (size : Extent) (position : Position) (mover : Colour) (at q : Point) : Type 0 where
  pub neighbour : Point
  pub on_board : IsOn size neighbour
  pub next_to : AreNeighbours at neighbour
  pub of_other : position neighbour ≡ stone_of (other mover)
  pub joined : AreJoined size position neighbour q
  pub dead : IsAlive size position neighbour → ⊥

-- q is of the group of the point, and that is not alive
abbrev pub IsSuicide : Extent → Position → Point → Point → Type 0
IsSuicide size position at q = AreJoined size position at q × (IsAlive size position at → ⊥)

-- a move of this colour at a point makes `after` of `before`
pub record Plays (size : Extent) (before : Position) (mover : Colour) (at : Point) (after : Position) : Type 0 where
  pub cleared : Position
  pub captures : Removes size (IsCaptured size (placed before at (stone_of mover)) mover at) (placed before at (stone_of mover)) cleared
  pub suicide : Removes size (IsSuicide size cleared at) cleared after

-- q had a stone once the move's stone was placed, and has none after the move
pub record IsRemoved (size : Extent) (before : Position) (mover : Colour) (at : Point) (after : Position) (q : Point) : Type 0 where
  pub on_board : IsOn size q
  pub stood : placed before at (stone_of mover) q ≢ stone.Empty
  pub gone : after q ≡ stone.Empty

-- the list has each point of which P holds, once, and no other
pub record ListsOnce (P : Point → Type 0) (points : List Point) : Type 0 where
  pub only : All P points
  pub each : (q : Point) → P q → Contains points q
  pub once : AllPairs (λ p q. p ≢ q) points

-- whether two points have the same stone, or none
abbrev pub same_stone : Stone → Stone → Bool
same_stone stone.Empty stone.Empty = true
same_stone stone.Black stone.Black = true
same_stone stone.White stone.White = true
same_stone _ _ = false

-- on how many of the points such a stone stands
abbrev pub count_of : Position → Stone → List Point → ℕ
count_of position kind points = count_by (λ p. same_stone (position p) kind) points

-- what setting a stone on a point, or emptying it, makes of a board: nothing else changes, and nothing is captured
pub record SetsOn (before : Stones) (at : Point) (kind : Stone) (after : Stones) : Type 0 where
  pub size : after.size ≡ before.size
  pub removed : after.removed ≡ before.removed
  pub position : (q : Point) → IsOn before.size q → position_of after q ≡ placed (position_of before) at kind q

-- what a move by the rule of capture makes of a board, and how many stones of each colour it removed: the points that
-- it lists are those of the removed stones, and each other point is as it was with the move's stone placed
pub record PlaysOn (before : Stones) (mover : Colour) (at : Point) (after : Stones) (played : Played) : Type 0 where
  pub size : after.size ≡ before.size
  pub position : Plays before.size (position_of before) mover at (position_of after)
  pub removed : ListsOnce (IsRemoved before.size (position_of before) mover at (position_of after)) after.removed
  pub kept : (q : Point) → IsOn before.size q → (Contains after.removed q → ⊥) → position_of after q ≡ placed (position_of before) at (stone_of mover) q
  pub all : played.taken + played.own_lost ≡ length after.removed
  pub taken : played.taken ≡ count_of (placed (position_of before) at (stone_of mover)) (stone_of (other mover)) after.removed
  pub own_lost : played.own_lost ≡ count_of (placed (position_of before) at (stone_of mover)) (stone_of mover) after.removed
  pub one : (played.taken ≡ 0) ⊎ (played.own_lost ≡ 0)
