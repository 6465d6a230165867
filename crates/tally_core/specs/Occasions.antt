-- Occasions (this project's own): the moves onto empty points, each with the position before it.
use Rattle.std.specs.Prelude.{◌≡◌, Bool, true, false, List, [], ◌∷◌, ◌++◌, if◌then◌else◌}
use Rattle.go_board.specs.Extent.{Extent}
use Rattle.go_board.specs.Position.{Position}
use Rattle.go_board.specs.declared.points.Point.{Point}
use Rattle.go_board.specs.declared.points.Colour.{Colour}
use Rattle.go_board.specs.declared.points.Stone.{Stone}
use Rattle.go_board.specs.declared.points.Stone.TheVariants as stone
use Rattle.go_record.specs.declared.actions.Action.{Action}
use Rattle.go_record.specs.declared.actions.Action.TheVariants as action
use Rattle.go_record.specs.Actions.{Actions}
use Rattle.go_record.specs.Replay.{empty_position, Does}
use Rattle.go_board.specs.Position.{AreSame}

pub record Occasion : Type 0 where
  pub position : Position
  pub mover : Colour
  pub at : Point

abbrev pub is_empty : Stone → Bool
is_empty stone.Empty = true
is_empty stone.Black = false
is_empty stone.White = false

-- the occasion of an action in a position, if it is one: passes, setups and moves onto stones are none
abbrev pub occasion_of : Position → Action → List Occasion
occasion_of before (action.Set low high stone) = []
occasion_of before (action.Move mover at) =
    if is_empty (before at) then record { position = before; mover = mover; at = at } ∷ [] else []
occasion_of before (action.Pass mover) = []

-- these are the occasions of the actions from a position on
abbrev pub HasOccasions : Extent → List Action → Position → List Occasion → Type 0
HasOccasions size [] before occasions = occasions ≡ []
HasOccasions size (action ∷ actions) before occasions =
    (after : Position) × (others : List Occasion)
    × Does size action before after
    × HasOccasions size actions after others
    × (occasions ≡ occasion_of before action ++ others)

-- these are the occasions of a game, from an empty board on
pub record AreOccasions (game : Actions) (occasions : List Occasion) : Type 0 where
  pub start : Position
  pub empty : AreSame game.size start empty_position
  pub replayed : HasOccasions game.size game.actions start occasions
