-- The record of a main line: the board's size and its actions, or that the tree is of another game, or the first fault.
use Rattle.std.specs.Prelude.{ℕ, ◌==◌, Bool, true, false, Option, Some, None, Result, Ok, Err, List, [], ◌∷◌, ◌++◌, map, codes, if◌then◌else◌}
use Rattle.std.specs.List.{flat_map}
use Rattle.std.specs.Str.{bytes_eq}
use Rattle.sgf_core.specs.Tree.{PropertyValue, Property, Node, name_of}
use Rattle.go_board.specs.Extent.{Extent}
use Rattle.go_board.specs.declared.points.Colour.{Colour}
use Rattle.go_board.specs.declared.points.Colour.TheVariants as colour
use Rattle.go_board.specs.declared.points.Stone.{Stone}
use Rattle.go_board.specs.declared.points.Stone.TheVariants as stone
use Rattle.go_record.specs.declared.actions.Action.{Action}
use Rattle.go_record.specs.declared.records.Kind.{Kind}
use Rattle.go_record.specs.declared.records.Kind.TheVariants as kind
use Rattle.go_record.specs.declared.faults.RecordFault.{RecordFault}
use Rattle.go_record.specs.declared.faults.RecordFault.TheVariants as fault
use Rattle.go_record.specs.Spelling.{trimmed, number_of, size_of}
use Rattle.go_record.specs.Setup.{move_of, setup_of, always}

abbrev pub is_named : List ℕ → Property → Bool
is_named name property = bytes_eq (name_of property.identifier) name

-- what a setup property sets: AB black, AW white, AE empty
abbrev pub setup_stone : Property → Option Stone
setup_stone property =
    if is_named (codes "AB") property then Some stone.Black
    else (if is_named (codes "AW") property then Some stone.White
    else (if is_named (codes "AE") property then Some stone.Empty else None))

-- whose moves a property has: B or W
abbrev pub move_colour : Property → Option Colour
move_colour property =
    if is_named (codes "B") property then Some colour.Black
    else (if is_named (codes "W") property then Some colour.White else None)

-- what each value of a setup property does
abbrev pub setups_of : Extent → Option Stone → Property → List (Result (Option Action) RecordFault)
setups_of size None property = []
setups_of size (Some stone) property = map (setup_of size stone) property.values

-- what each value of a move property does
abbrev pub moves_of : Extent → Option Colour → Property → List (Result (Option Action) RecordFault)
moves_of size None property = []
moves_of size (Some colour) property = map (λ value. always (move_of size colour value)) property.values

-- a node's setup, all of it first, then its moves
abbrev pub node_deeds : Extent → Node → List (Result (Option Action) RecordFault)
node_deeds size node =
    flat_map (λ property. setups_of size (setup_stone property) property) node
    ++ flat_map (λ property. moves_of size (move_colour property) property) node

-- one more action in front, where there is no fault
abbrev pub onto : Option Action → Result (List Action) RecordFault → Result (List Action) RecordFault
onto None others = others
onto (Some action) (Ok actions) = Ok (action ∷ actions)
onto (Some action) (Err found) = Err found

-- the actions of these results, or their first fault
abbrev pub collected : List (Result (Option Action) RecordFault) → Result (List Action) RecordFault
collected [] = Ok []
collected (Err found ∷ rest) = Err found
collected (Ok deed ∷ rest) = onto deed (collected rest)

abbrev pub front_value : List PropertyValue → Option PropertyValue
front_value [] = None
front_value (value ∷ values) = Some value

-- the first value of the first property of this name
abbrev pub first_value : List ℕ → Node → Option PropertyValue
first_value name [] = None
first_value name (property ∷ node) =
    if is_named name property then front_value property.values else first_value name node

abbrev pub is_number_one : Option ℕ → Bool
is_number_one None = false
is_number_one (Some n) = n == 1

-- Go is game 1, and an empty text
abbrev pub is_go_text : List ℕ → Bool
is_go_text [] = true
is_go_text (byte ∷ bytes) = is_number_one (number_of (byte ∷ bytes))

-- whether the tree is of Go by this value of GM; with no value it is
abbrev pub is_go : Option PropertyValue → Bool
is_go None = true
is_go (Some value) = is_go_text (trimmed value.bytes)

abbrev pub size_or_fault : ℕ → Option Extent → Result Extent RecordFault
size_or_fault at None = Err (fault.BadSize at)
size_or_fault at (Some size) = Ok size

-- the board's size by this value of SZ, 19 by 19 where there is none
abbrev pub board_of : Option PropertyValue → Result Extent RecordFault
board_of None = Ok (record { columns = 19; rows = 19 })
board_of (Some value) = size_or_fault value.at (size_of value.bytes)

-- the first node, where GM and SZ count
abbrev pub root_of : List Node → Node
root_of [] = []
root_of (node ∷ nodes) = node

abbrev pub recorded : Extent → Result (List Action) RecordFault → Result Kind RecordFault
recorded size (Err found) = Err found
recorded size (Ok actions) = Ok (kind.Go (record { size = size; actions = actions }))

abbrev pub record_on : List Node → Result Extent RecordFault → Result Kind RecordFault
record_on nodes (Err found) = Err found
record_on nodes (Ok size) = recorded size (collected (flat_map (node_deeds size) nodes))

-- the record of a main line
abbrev pub record_of : List Node → Result Kind RecordFault
record_of nodes =
    if is_go (first_value (codes "GM") (root_of nodes))
    then record_on nodes (board_of (first_value (codes "SZ") (root_of nodes)))
    else Ok kind.Other
