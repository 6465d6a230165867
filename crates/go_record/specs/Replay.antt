-- What the actions of a record do to a position, one after another.
use Rattle.std.specs.Prelude.{nat_le, ◌&&◌, Bool, List, [], ◌∷◌, if◌then◌else◌}
use Rattle.go_board.specs.Extent.{Extent}
use Rattle.go_board.specs.Position.{Position, AreSame}
use Rattle.go_board.specs.Play.{Plays}
use Rattle.go_board.specs.declared.points.Point.{Point}
use Rattle.go_board.specs.declared.points.Stone.{Stone}
use Rattle.go_board.specs.declared.points.Stone.TheVariants as stone
use Rattle.go_record.specs.declared.actions.Action.{Action}
use Rattle.go_record.specs.declared.actions.Action.TheVariants as action

-- the empty board
abbrev pub empty_position : Position
empty_position point = stone.Empty

-- the point is in the rectangle with these corners
abbrev pub is_within : Point → Point → Point → Bool
is_within low high point =
    nat_le low.column point.column && nat_le point.column high.column && nat_le low.row point.row && nat_le point.row high.row

-- the position with this stone on each point of a rectangle, whatever stood there, and nothing else removed
abbrev pub filled : Position → Point → Point → Stone → Position
filled position low high stone point = if is_within low high point then stone else position point

-- an action makes `after` of `before`
abbrev pub Does : Extent → Action → Position → Position → Type 0
Does size (action.Set low high stone) before after = AreSame size after (filled before low high stone)
Does size (action.Move colour at) before after = Plays size before colour at after
Does size (action.Pass colour) before after = AreSame size after before

-- the actions in order make `after` of `before`
abbrev pub Replays : Extent → List Action → Position → Position → Type 0
Replays size [] before after = AreSame size after before
Replays size (action ∷ actions) before after =
    (between : Position) × Does size action before between × Replays size actions between after
