-- A tree that is moved to another place has the record that it had.
use Rattle.std.proofs.Common.{◌≡◌, ℕ, ◌&&◌, Bool, true, false, cond, Option, Some, None, option_map, Result, Ok, Err, List, [], ◌∷◌, ◌++◌, map, refl, ap, ap₂, sym, ◌∙◌, codes, min, max}
use Rattle.std.specs.List.{flat_map, list_any, before_first, after_first}
use Rattle.std.proofs.lemmas.List.{map-append}
use Rattle.sgf_core.specs.Tree.{PropertyValue, Property, Node, Forest, no_trees, a_tree, GameTree, first_line, main_line_of}
use Rattle.go_board.specs.Extent.{Extent}
use Rattle.go_board.specs.Point.{is_on}
use Rattle.go_board.specs.declared.points.Point.{Point}
use Rattle.go_board.specs.declared.points.Colour.{Colour}
use Rattle.go_board.specs.declared.points.Stone.{Stone}
use Rattle.go_record.specs.Actions.{Actions}
use Rattle.go_record.specs.Point.{point_of}
use Rattle.go_record.specs.Record.{is_named, setup_stone, move_colour, setups_of, moves_of, node_deeds, onto, collected, front_value, first_value, is_go, size_or_fault, board_of, root_of, recorded, record_on, record_of}
use Rattle.go_record.specs.Setup.{is_pass, played, move_of, spanned, always, setup_text, setup_of}
use Rattle.go_record.specs.Spelling.{trimmed, is_colon, size_of}
use Rattle.go_record.specs.declared.actions.Action.{Action}
use Rattle.go_record.specs.declared.actions.Action.TheVariants as action
use Rattle.go_record.specs.declared.records.Kind.TheVariants as kind
use Rattle.go_record.specs.declared.faults.RecordFault.{RecordFault}
use Rattle.go_record.specs.declared.faults.RecordFault.TheVariants as fault
use Rattle.game_core.specs.Collection.{record_of_tree}
use Rattle.listing_core.specs.Cuts.{value_at, property_at, node_at, forest_at, tree_at}

-- a fault is where its value is
abbrev pub fault_at : (ℕ → ℕ) → RecordFault → RecordFault
fault_at place (fault.BadSize at) = fault.BadSize (place at)
fault_at place (fault.BadPoint at) = fault.BadPoint (place at)
fault_at place (fault.OffBoard at) = fault.OffBoard (place at)
fault_at place fault.Memory = fault.Memory

-- and all else is the same
abbrev pub result_at : {A : Type 0} → (ℕ → ℕ) → Result A RecordFault → Result A RecordFault
result_at place (Ok a) = Ok a
result_at place (Err found) = Err (fault_at place found)

first_line_moved : (place : ℕ → ℕ) (forest : Forest) → first_line (forest_at place forest) ≡ map (node_at place) (first_line forest)
first_line_moved place no_trees = refl
first_line_moved place (a_tree nodes inner rest) =
    ap (λ line. map (node_at place) nodes ++ line) (first_line_moved place inner) ∙ sym (map-append (node_at place) nodes (first_line inner))

line_moved : (place : ℕ → ℕ) (tree : GameTree) → main_line_of (tree_at place tree) ≡ map (node_at place) (main_line_of tree)
line_moved place tree =
    ap (λ line. map (node_at place) tree.nodes ++ line) (first_line_moved place tree.inner) ∙ sym (map-append (node_at place) tree.nodes (first_line tree.inner))

root_moved : (place : ℕ → ℕ) (line : List Node) → root_of (map (node_at place) line) ≡ node_at place (root_of line)
root_moved place [] = refl
root_moved place (node ∷ line) = refl

front_moved : (place : ℕ → ℕ) (values : List PropertyValue) → front_value (map (value_at place) values) ≡ option_map (value_at place) (front_value values)
front_moved place [] = refl
front_moved place (value ∷ values) = refl

value_moved : (place : ℕ → ℕ) (name : List ℕ) (node : Node) → first_value name (node_at place node) ≡ option_map (value_at place) (first_value name node)
value_moved place name [] = refl
value_moved place name (property ∷ node) = by_name (is_named name property) (value_moved place name node)
  where
    by_name : (b : Bool) → first_value name (node_at place node) ≡ option_map (value_at place) (first_value name node) →
        cond b (front_value (map (value_at place) property.values)) (first_value name (node_at place node))
        ≡ option_map (value_at place) (cond b (front_value property.values) (first_value name node))
    by_name true rest = front_moved place property.values
    by_name false rest = rest

go_moved : (place : ℕ → ℕ) (value : Option PropertyValue) → is_go (option_map (value_at place) value) ≡ is_go value
go_moved place None = refl
go_moved place (Some value) = refl

size_moved : (place : ℕ → ℕ) (at : ℕ) (size : Option Extent) → size_or_fault (place at) size ≡ result_at place (size_or_fault at size)
size_moved place at None = refl
size_moved place at (Some size) = refl

board_moved : (place : ℕ → ℕ) (value : Option PropertyValue) → board_of (option_map (value_at place) value) ≡ result_at place (board_of value)
board_moved place None = refl
board_moved place (Some value) = size_moved place value.at (size_of value.bytes)

always_moved : (place : ℕ → ℕ) (one other : Result Action RecordFault) → other ≡ result_at place one → always other ≡ result_at place (always one)
always_moved place (Ok found) other e = ap always e
always_moved place (Err found) other e = ap always e

-- a test of the same, either way
cond_moved : {A : Type 0} (place : ℕ → ℕ) (b : Bool) (a : A) (found : RecordFault) →
    cond b (Ok a) (Err (fault_at place found)) ≡ result_at place (cond b (Ok a) (Err found))
cond_moved place true a found = refl
cond_moved place false a found = refl

played_moved : (place : ℕ → ℕ) (size : Extent) (colour : Colour) (at : ℕ) (point : Option Point) → played size colour (place at) point ≡ result_at place (played size colour at point)
played_moved place size colour at None = refl
played_moved place size colour at (Some point) = cond_moved place (is_on size point) (action.Move colour point) (fault.OffBoard at)

spanned_moved : (place : ℕ → ℕ) (size : Extent) (stone : Stone) (at : ℕ) (p q : Option Point) → spanned size stone (place at) p q ≡ result_at place (spanned size stone at p q)
spanned_moved place size stone at None q = refl
spanned_moved place size stone at (Some p) None = refl
spanned_moved place size stone at (Some p) (Some q) =
    cond_moved place (is_on size p && is_on size q)
    (action.Set (record { column = min p.column q.column; row = min p.row q.row }) (record { column = max p.column q.column; row = max p.row q.row }) stone)
    (fault.OffBoard at)

text_moved : (place : ℕ → ℕ) (size : Extent) (stone : Stone) (at : ℕ) (text : List ℕ) → setup_text size stone (place at) text ≡ result_at place (setup_text size stone at text)
text_moved place size stone at [] = refl
text_moved place size stone at (byte ∷ bytes) = by_colon (list_any is_colon (byte ∷ bytes))
  where
    first : Option Point
    first = point_of (trimmed (before_first is_colon (byte ∷ bytes)))

    second : Option Point
    second = point_of (trimmed (after_first is_colon (byte ∷ bytes)))

    one : Option Point
    one = point_of (byte ∷ bytes)

    by_colon : (b : Bool) →
        cond b (always (spanned size stone (place at) first second)) (always (spanned size stone (place at) one one))
        ≡ result_at place (cond b (always (spanned size stone at first second)) (always (spanned size stone at one one)))
    by_colon true = always_moved place (spanned size stone at first second) (spanned size stone (place at) first second) (spanned_moved place size stone at first second)
    by_colon false = always_moved place (spanned size stone at one one) (spanned size stone (place at) one one) (spanned_moved place size stone at one one)

setup_moved : (place : ℕ → ℕ) (size : Extent) (stone : Stone) (value : PropertyValue) → setup_of size stone (value_at place value) ≡ result_at place (setup_of size stone value)
setup_moved place size stone value = text_moved place size stone value.at (trimmed value.bytes)

move_moved : (place : ℕ → ℕ) (size : Extent) (colour : Colour) (value : PropertyValue) → move_of size colour (value_at place value) ≡ result_at place (move_of size colour value)
move_moved place size colour value = by_pass (is_pass size (trimmed value.bytes))
  where
    point : Option Point
    point = point_of (trimmed value.bytes)

    by_pass : (b : Bool) →
        cond b (Ok (action.Pass colour)) (played size colour (place value.at) point)
        ≡ result_at place (cond b (Ok (action.Pass colour)) (played size colour value.at point))
    by_pass true = refl
    by_pass false = played_moved place size colour value.at point

-- deeds, one for each value
values_moved : {A : Type 0} (place : ℕ → ℕ) (deed : PropertyValue → Result A RecordFault) →
    ((value : PropertyValue) → deed (value_at place value) ≡ result_at place (deed value)) → (values : List PropertyValue) →
    map deed (map (value_at place) values) ≡ map (result_at place) (map deed values)
values_moved place deed one [] = refl
values_moved place deed one (value ∷ values) = ap₂ (λ x xs. x ∷ xs) (one value) (values_moved place deed one values)

setups_moved : (place : ℕ → ℕ) (size : Extent) (stone : Option Stone) (property : Property) →
    setups_of size stone (property_at place property) ≡ map (result_at place) (setups_of size stone property)
setups_moved place size None property = refl
setups_moved place size (Some stone) property = values_moved place (setup_of size stone) (setup_moved place size stone) property.values

always_move : (place : ℕ → ℕ) (size : Extent) (colour : Colour) (value : PropertyValue) →
    always (move_of size colour (value_at place value)) ≡ result_at place (always (move_of size colour value))
always_move place size colour value =
    always_moved place (move_of size colour value) (move_of size colour (value_at place value)) (move_moved place size colour value)

moves_moved : (place : ℕ → ℕ) (size : Extent) (colour : Option Colour) (property : Property) →
    moves_of size colour (property_at place property) ≡ map (result_at place) (moves_of size colour property)
moves_moved place size None property = refl
moves_moved place size (Some colour) property = values_moved place (λ value. always (move_of size colour value)) (always_move place size colour) property.values

-- a list for each element, where each element is moved
flat_moved : {A B : Type 0} (g : B → B) (h : A → A) (parts : A → List B) → ((a : A) → parts (h a) ≡ map g (parts a)) → (all : List A) →
    flat_map parts (map h all) ≡ map g (flat_map parts all)
flat_moved g h parts one [] = refl
flat_moved g h parts one (a ∷ all) =
    ap₂ (λ x y. x ++ y) (one a) (flat_moved g h parts one all) ∙ sym (map-append g (parts a) (flat_map parts all))

node_moved : (place : ℕ → ℕ) (size : Extent) (node : Node) → node_deeds size (node_at place node) ≡ map (result_at place) (node_deeds size node)
node_moved place size node =
    let setups = λ (property : Property). setups_of size (setup_stone property) property in
    let moves = λ (property : Property). moves_of size (move_colour property) property in
    ap₂ (λ x y. x ++ y)
    (flat_moved (result_at place) (property_at place) setups (λ property. setups_moved place size (setup_stone property) property) node)
    (flat_moved (result_at place) (property_at place) moves (λ property. moves_moved place size (move_colour property) property) node)
    ∙ sym (map-append (result_at place) (flat_map setups node) (flat_map moves node))

onto_moved : (place : ℕ → ℕ) (deed : Option Action) (others : Result (List Action) RecordFault) → onto deed (result_at place others) ≡ result_at place (onto deed others)
onto_moved place None others = refl
onto_moved place (Some action) (Ok actions) = refl
onto_moved place (Some action) (Err found) = refl

collected_moved : (place : ℕ → ℕ) (deeds : List (Result (Option Action) RecordFault)) → collected (map (result_at place) deeds) ≡ result_at place (collected deeds)
collected_moved place [] = refl
collected_moved place (Err found ∷ rest) = refl
collected_moved place (Ok deed ∷ rest) = ap (onto deed) (collected_moved place rest) ∙ onto_moved place deed (collected rest)

recorded_moved : (place : ℕ → ℕ) (size : Extent) (actions : Result (List Action) RecordFault) → recorded size (result_at place actions) ≡ result_at place (recorded size actions)
recorded_moved place size (Ok actions) = refl
recorded_moved place size (Err found) = refl

on_moved : (place : ℕ → ℕ) (line : List Node) (size : Result Extent RecordFault) → record_on (map (node_at place) line) (result_at place size) ≡ result_at place (record_on line size)
on_moved place line (Err found) = refl
on_moved place line (Ok size) =
    ap (λ deeds. recorded size (collected deeds)) (flat_moved (result_at place) (node_at place) (node_deeds size) (node_moved place size) line)
    ∙ ap (recorded size) (collected_moved place (flat_map (node_deeds size) line))
    ∙ recorded_moved place size (collected (flat_map (node_deeds size) line))

record_moved : (place : ℕ → ℕ) (line : List Node) → record_of (map (node_at place) line) ≡ result_at place (record_of line)
record_moved place line =
    ap₂ (λ b size. cond b (record_on (map (node_at place) line) size) (Ok kind.Other)) same_go same_size
    ∙ ap (λ on. cond (is_go (value (codes "GM"))) on (Ok kind.Other)) (on_moved place line (board_of (value (codes "SZ"))))
    ∙ by_go (is_go (value (codes "GM")))
  where
    value : List ℕ → Option PropertyValue
    value name = first_value name (root_of line)

    same : (name : List ℕ) → first_value name (root_of (map (node_at place) line)) ≡ option_map (value_at place) (value name)
    same name = ap (first_value name) (root_moved place line) ∙ value_moved place name (root_of line)

    same_go : is_go (first_value (codes "GM") (root_of (map (node_at place) line))) ≡ is_go (value (codes "GM"))
    same_go = ap is_go (same (codes "GM")) ∙ go_moved place (value (codes "GM"))

    same_size : board_of (first_value (codes "SZ") (root_of (map (node_at place) line))) ≡ result_at place (board_of (value (codes "SZ")))
    same_size = ap board_of (same (codes "SZ")) ∙ board_moved place (value (codes "SZ"))

    by_go : (b : Bool) →
        cond b (result_at place (record_on line (board_of (value (codes "SZ"))))) (Ok kind.Other)
        ≡ result_at place (cond b (record_on line (board_of (value (codes "SZ")))) (Ok kind.Other))
    by_go true = refl
    by_go false = refl

-- a game stays the game that it is
pub game_moved : (place : ℕ → ℕ) (tree : GameTree) (game : Actions) → record_of_tree tree ≡ Ok (kind.Go game) → record_of_tree (tree_at place tree) ≡ Ok (kind.Go game)
game_moved place tree game e =
    ap record_of (line_moved place tree) ∙ record_moved place (main_line_of tree) ∙ ap (result_at place) e
