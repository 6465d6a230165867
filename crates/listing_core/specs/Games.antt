-- What a listing says of a game: how many moves it has, and how many of them are occasions.
use Rattle.std.specs.Prelude.{◌≡◌, ℕ, Bool, true, false, List, length, count_by}
use Rattle.go_record.specs.Actions.{Actions}
use Rattle.go_record.specs.declared.actions.Action.{Action}
use Rattle.go_record.specs.declared.actions.Action.TheVariants as action
use Rattle.tally_core.specs.Occasions.{Occasion, AreOccasions}

-- moves and passes are moves; setup is not
abbrev pub is_move : Action → Bool
is_move (action.Set low high stone) = false
is_move (action.Move colour at) = true
is_move (action.Pass colour) = true

abbrev pub moves_in : List Action → ℕ
moves_in actions = count_by is_move actions

-- the game has this number of occasions: moves onto empty points, as `count` counts them
pub record HasOccasionNumber (game : Actions) (number : ℕ) : Type 0 where
  pub occasions : List Occasion
  pub replayed : AreOccasions game occasions
  pub counted : number ≡ length occasions
