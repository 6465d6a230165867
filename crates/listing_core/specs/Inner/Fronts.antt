-- The occasions of actions that follow one another, counted from a position on.
use Rattle.std.specs.Prelude.{◌≡◌, ℕ, List, length}
use Rattle.go_board.specs.Extent.{Extent}
use Rattle.go_board.specs.Position.{Position}
use Rattle.go_record.specs.declared.actions.Action.{Action}
use Rattle.tally_core.specs.Occasions.{Occasion, occasion_of, HasOccasions}

-- how many occasions an action is
abbrev pub occasions_of : Position → Action → ℕ
occasions_of before action = length (occasion_of before action)

-- the actions have this number of occasions, from a position on
pub record HasNumberFrom (size : Extent) (actions : List Action) (before : Position) (number : ℕ) : Type 0 where
  pub occasions : List Occasion
  pub replayed : HasOccasions size actions before occasions
  pub counted : number ≡ length occasions
