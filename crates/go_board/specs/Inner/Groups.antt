-- Words for the steps of a move: which stones one group without a liberty loses, and what is found beside a point.
use Rattle.std.specs.Prelude.{◌≡◌, ◌≢◌, ◌++◌, List, All, Contains}
use Rattle.go_board.specs.declared.points.Point.{Point}
use Rattle.go_board.specs.declared.points.Stone.{Stone}
use Rattle.go_board.specs.declared.points.Stone.TheVariants as stone
use Rattle.go_board.specs.Extent.{Extent}
use Rattle.go_board.specs.Point.{IsOn, AreNeighbours}
use Rattle.go_board.specs.Position.{Position, AreJoined, IsAlive}

-- such a stone stands at p and is not alive, and q is of its group
pub record IsDead (size : Extent) (position : Position) (kind : Stone) (p q : Point) : Type 0 where
  pub of_kind : position p ≡ kind
  pub joined : AreJoined size position p q
  pub dead : IsAlive size position p → ⊥

-- p has an empty neighbour
pub record HasLiberty (size : Extent) (position : Position) (p : Point) : Type 0 where
  pub liberty : Point
  pub on_board : IsOn size liberty
  pub next_to : AreNeighbours p liberty
  pub empty : position liberty ≡ stone.Empty

-- q is a neighbour of p with such a stone
pub record IsSuchNeighbour (size : Extent) (position : Position) (kind : Stone) (p q : Point) : Type 0 where
  pub on_board : IsOn size q
  pub next_to : AreNeighbours p q
  pub of_kind : position q ≡ kind

-- the list grew by such neighbours of p
pub record Gathers (size : Extent) (position : Position) (kind : Stone) (p : Point) (before after : List Point) : Type 0 where
  pub more : List Point
  pub appended : after ≡ before ++ more
  pub only : All (IsSuchNeighbour size position kind p) more

-- p has no empty neighbour, and its neighbours with such a stone are in the list
pub record IsSurrounded (size : Extent) (position : Position) (kind : Stone) (points : List Point) (p : Point) : Type 0 where
  pub full : (q : Point) → IsOn size q → AreNeighbours p q → position q ≢ stone.Empty
  pub listed : (q : Point) → IsSuchNeighbour size position kind p q → Contains points q
