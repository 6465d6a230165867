-- The occasions of a game, each with the number of its move.
use Rattle.std.specs.Prelude.{◌≡◌, ℕ, ◌+◌, List, [], ◌∷◌, ◌++◌, map}
use Rattle.go_board.specs.Extent.{Extent}
use Rattle.go_board.specs.Position.{Position, AreSame}
use Rattle.go_record.specs.Actions.{Actions}
use Rattle.go_record.specs.Replay.{empty_position, Does}
use Rattle.go_record.specs.declared.actions.Action.{Action}
use Rattle.go_record.specs.declared.actions.Action.TheVariants as action
use Rattle.tally_core.specs.Occasions.{Occasion, occasion_of}

-- an occasion, and the number of its move in the game
pub record Turn : Type 0 where
  pub number : ℕ
  pub occasion : Occasion

abbrev pub turn_of : ℕ → Occasion → Turn
turn_of number occasion = record { number = number; occasion = occasion }

-- the number of the next move after an action, where it is `number` before it: moves and passes are moves, setup is none
abbrev pub number_after : ℕ → Action → ℕ
number_after number (action.Set low high stone) = number
number_after number (action.Move mover at) = number + 1
number_after number (action.Pass mover) = number + 1

-- these are the occasions of the actions from a position on, with the numbers of their moves, of which the next is `number`
abbrev pub HasTurns : Extent → List Action → ℕ → Position → List Turn → Type 0
HasTurns size [] number before turns = turns ≡ []
HasTurns size (action ∷ actions) number before turns =
    (after : Position) × (others : List Turn)
    × Does size action before after
    × HasTurns size actions (number_after number action) after others
    × (turns ≡ map (turn_of number) (occasion_of before action) ++ others)

-- these are the occasions of a game, from an empty board on, with the numbers of their moves, of which the first is 1
pub record AreTurns (game : Actions) (turns : List Turn) : Type 0 where
  pub start : Position
  pub empty : AreSame game.size start empty_position
  pub replayed : HasTurns game.size game.actions 1 start turns
