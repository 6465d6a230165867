-- What a record is: the board's size and its actions in order, every point of which is on the board.
use Rattle.std.specs.Prelude.{◌≤◌, List, All}
use Rattle.go_board.specs.Extent.{Extent}
use Rattle.go_board.specs.Point.{IsOn}
use Rattle.go_record.specs.declared.actions.Action.{Action}
use Rattle.go_record.specs.declared.actions.Action.TheVariants as action

pub record Actions : Type 0 where
  pub size : Extent
  pub actions : List Action

-- the points of an action are on a board of this size, and a rectangle's first corner has the lesser column and row
abbrev pub IsActionOn : Extent → Action → Type 0
IsActionOn size (action.Set low high stone) =
    IsOn size low × IsOn size high × (low.column ≤ high.column) × (low.row ≤ high.row)
IsActionOn size (action.Move colour at) = IsOn size at
IsActionOn size (action.Pass colour) = Unit {0}

abbrev pub AreOnBoard : Actions → Type 0
AreOnBoard game = All (IsActionOn game.size) game.actions
