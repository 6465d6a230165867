-- The file of a hit, in SGF FF[4]: the game up to the position that was looked at, with a mark on the hit's point.
use Rattle.std.specs.Prelude.{ℕ, zero, suc, ◌-◌, ◌==◌, ◌&&◌, Bool, true, false, List, [], ◌∷◌, ◌++◌, length, replicate, Option, Some, None, codes, if◌then◌else◌}
use Rattle.std.specs.Fmt.{decimal}
use Rattle.go_board.specs.Extent.{Extent}
use Rattle.go_board.specs.declared.points.Point.{Point}
use Rattle.go_board.specs.declared.points.Colour.{Colour}
use Rattle.go_board.specs.declared.points.Colour.TheVariants as colour
use Rattle.go_board.specs.declared.points.Stone.{Stone}
use Rattle.go_board.specs.declared.points.Stone.TheVariants as stone
use Rattle.go_record.specs.Actions.{Actions}
use Rattle.go_record.specs.declared.actions.Action.{Action}
use Rattle.go_record.specs.declared.actions.Action.TheVariants as action
use Rattle.shape_dict.specs.Text.{line_feed}
use Rattle.hits_core.specs.Lines.{point_text}
use Rattle.hits_core.specs.declared.hits.Hit.{Hit}

-- the actions before the move that comes after this number of moves and passes
abbrev pub actions_before : ℕ → List Action → List Action
actions_before moves [] = []
actions_before moves (action.Set low high stone ∷ actions) = action.Set low high stone ∷ actions_before moves actions
actions_before zero (action.Move mover at ∷ actions) = []
actions_before zero (action.Pass mover ∷ actions) = []
actions_before (suc moves) (action.Move mover at ∷ actions) = action.Move mover at ∷ actions_before moves actions
actions_before (suc moves) (action.Pass mover ∷ actions) = action.Pass mover ∷ actions_before moves actions

-- that move and the actions after it
abbrev pub actions_from : ℕ → List Action → List Action
actions_from moves [] = []
actions_from moves (action.Set low high stone ∷ actions) = actions_from moves actions
actions_from zero (action.Move mover at ∷ actions) = action.Move mover at ∷ actions
actions_from zero (action.Pass mover ∷ actions) = action.Pass mover ∷ actions
actions_from (suc moves) (action.Move mover at ∷ actions) = actions_from moves actions
actions_from (suc moves) (action.Pass mover ∷ actions) = actions_from moves actions

-- a value: these bytes in brackets
abbrev pub value_text : List ℕ → List ℕ
value_text bytes = codes "[" ++ bytes ++ codes "]"

-- the size of a board: one number where it is a square
unfoldable pub size_text : Extent → List ℕ
size_text size = decimal size.columns ++ (if size.columns == size.rows then [] else codes ":" ++ decimal size.rows)

abbrev pub is_one : Point → Point → Bool
is_one low high = low.column == high.column && low.row == high.row

-- the points of a rectangle: one point, or two corners
abbrev pub span_text : Point → Point → List ℕ
span_text low high = point_text low ++ (if is_one low high then [] else codes ":" ++ point_text high)

-- the property that sets a stone, or takes it away
abbrev pub setup_name : Stone → List ℕ
setup_name stone.Black = codes "AB"
setup_name stone.White = codes "AW"
setup_name stone.Empty = codes "AE"

-- the property of a move, and the name of a colour
abbrev pub colour_name : Colour → List ℕ
colour_name colour.Black = codes "B"
colour_name colour.White = codes "W"

abbrev pub is_same_stone : Stone → Stone → Bool
is_same_stone stone.Black stone.Black = true
is_same_stone stone.White stone.White = true
is_same_stone stone.Empty stone.Empty = true
is_same_stone one other = false

-- whether the action before set the same stone, so that setup of it is a further value of the same property
abbrev pub goes_on : Option Action → Stone → Bool
goes_on None stone = false
goes_on (Some (action.Set low high before)) stone = is_same_stone before stone
goes_on (Some (action.Move mover at)) stone = false
goes_on (Some (action.Pass mover)) stone = false

abbrev pub node_text : List ℕ
node_text = line_feed ++ codes ";"

-- a property of setup begins: in the first node where no action comes before it, else in a node of its own
abbrev pub setup_front : Option Action → Stone → List ℕ
setup_front None stone = setup_name stone
setup_front (Some action) stone = if goes_on (Some action) stone then [] else node_text ++ setup_name stone

-- an action after another: each move and each pass is a node of its own
abbrev pub action_text : Option Action → Action → List ℕ
action_text before (action.Set low high stone) = setup_front before stone ++ value_text (span_text low high)
action_text before (action.Move mover at) = node_text ++ colour_name mover ++ value_text (point_text at)
action_text before (action.Pass mover) = node_text ++ colour_name mover ++ value_text []

abbrev pub actions_text : Option Action → List Action → List ℕ
actions_text before [] = []
actions_text before (action ∷ actions) = action_text before action ++ actions_text (Some action) actions

-- the mark on a point
abbrev pub mark_text : Point → List ℕ
mark_text point = codes "TR" ++ value_text (point_text point)

-- a branch with the move that was played
abbrev pub played_text : List Action → List ℕ
played_text [] = []
played_text (action.Set low high stone ∷ actions) = []
played_text (action.Move mover at ∷ actions) = line_feed ++ codes "(;" ++ colour_name mover ++ value_text (point_text at) ++ codes ")"
played_text (action.Pass mover ∷ actions) = line_feed ++ codes "(;" ++ colour_name mover ++ value_text [] ++ codes ")"

-- the first node as far as it is the same for all games of a size
abbrev pub root_text : Extent → List ℕ
root_text size = codes "(;FF[4]GM[1]SZ" ++ value_text (size_text size)

-- the branch in which the main line ends: the same position, with who is to move
abbrev pub position_branch : Hit → List ℕ
position_branch hit = line_feed ++ codes "(;PL" ++ value_text (colour_name hit.mover) ++ mark_text hit.at ++ codes ")"

-- the file of a hit of a game: what comes before the move, with a mark on the hit's point in its last node, and two branches
abbrev pub sgf_text : Actions → Hit → List ℕ
sgf_text game hit =
    root_text game.size ++ actions_text None (actions_before (hit.number - 1) game.actions) ++ mark_text hit.at
    ++ position_branch hit ++ played_text (actions_from (hit.number - 1) game.actions) ++ codes ")" ++ line_feed

-- a number with zeros before it, up to this many digits
abbrev pub padded : ℕ → ℕ → List ℕ
padded digits number = replicate (digits - length (decimal number)) 48 ++ decimal number

-- the name of the file: the numbers of the game and of the move, and the point
abbrev pub file_name : Hit → List ℕ
file_name hit = codes "game-" ++ padded 6 hit.game ++ codes "-move-" ++ padded 3 hit.number ++ codes "-" ++ point_text hit.at ++ codes ".sgf"
