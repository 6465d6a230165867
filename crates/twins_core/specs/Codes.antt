-- The code of a record, by which records are looked up: bytes that no other record has.
use Rattle.std.specs.Prelude.{ℕ, List, [], ◌∷◌}
use Rattle.std.specs.List.{flat_map}
use Rattle.go_board.specs.declared.points.Point.{Point}
use Rattle.go_board.specs.declared.points.Colour.{Colour}
use Rattle.go_board.specs.declared.points.Colour.TheVariants as colour
use Rattle.go_board.specs.declared.points.Stone.{Stone}
use Rattle.go_board.specs.declared.points.Stone.TheVariants as stone
use Rattle.go_record.specs.Actions.{Actions}
use Rattle.go_record.specs.declared.actions.Action.{Action}
use Rattle.go_record.specs.declared.actions.Action.TheVariants as action

abbrev pub move_code : Colour → Point → List ℕ
move_code colour.Black at = 0 ∷ at.column ∷ at.row ∷ []
move_code colour.White at = 1 ∷ at.column ∷ at.row ∷ []

abbrev pub pass_code : Colour → List ℕ
pass_code colour.Black = 2 ∷ []
pass_code colour.White = 3 ∷ []

abbrev pub stone_code : Stone → ℕ
stone_code stone.Empty = 4
stone_code stone.Black = 5
stone_code stone.White = 6

abbrev pub action_code : Action → List ℕ
action_code (action.Move colour at) = move_code colour at
action_code (action.Pass colour) = pass_code colour
action_code (action.Set low high stone) = stone_code stone ∷ low.column ∷ low.row ∷ high.column ∷ high.row ∷ []

abbrev pub actions_code : List Action → List ℕ
actions_code actions = flat_map action_code actions

abbrev pub record_code : Actions → List ℕ
record_code game = game.size.columns ∷ game.size.rows ∷ actions_code game.actions
