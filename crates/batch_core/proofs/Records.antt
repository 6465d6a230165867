-- The record of a shifted tree is that of the tree, but for the place in its fault.
use Rattle.std.proofs.Common.{◌≡◌, ℕ, ◌+◌, Bool, true, false, List, [], ◌∷◌, ◌++◌, map, codes, Option, Some, None, Result, Ok, Err, refl, sym, ap, ◌∙◌}
use Rattle.std.specs.Prelude.{min, max, ◌&&◌, if◌then◌else◌}
use Rattle.std.specs.List.{flat_map, list_any, before_first, after_first}
use Rattle.std.proofs.lemmas.List.{map-append}
use Rattle.sgf_core.specs.Tree.{PropertyValue, Property, Node, Forest, no_trees, a_tree, GameTree, first_line, main_line_of}
use Rattle.go_board.specs.Extent.{Extent}
use Rattle.go_board.specs.Point.{is_on}
use Rattle.go_board.specs.declared.points.Point.{Point}
use Rattle.go_board.specs.declared.points.Colour.{Colour}
use Rattle.go_board.specs.declared.points.Stone.{Stone}
use Rattle.go_record.specs.declared.actions.Action.{Action}
use Rattle.go_record.specs.declared.actions.Action.TheVariants as action
use Rattle.go_record.specs.declared.records.Kind.{Kind}
use Rattle.go_record.specs.declared.records.Kind.TheVariants as kind
use Rattle.go_record.specs.declared.faults.RecordFault.{RecordFault}
use Rattle.go_record.specs.declared.faults.RecordFault.TheVariants as fault
use Rattle.go_record.specs.Spelling.{trimmed, is_colon, size_of}
use Rattle.go_record.specs.Point.{point_of}
use Rattle.go_record.specs.Setup.{is_pass, played, move_of, spanned, always, setup_text, setup_of}
use Rattle.go_record.specs.Record.{is_named, setup_stone, move_colour, setups_of, moves_of, node_deeds, onto, collected, front_value, first_value, is_go, size_or_fault, board_of, root_of, recorded, record_on, record_of}
use Rattle.game_core.specs.Collection.{record_of_tree, games_among}
use Rattle.batch_core.proofs.Squares.{map-square, flat_map-square}
use Rattle.batch_core.proofs.Shifted.{shifted_value, shifted_property, shifted_node, shifted_forest, shifted_tree}

abbrev shifted_fault : ℕ → RecordFault → RecordFault
shifted_fault d (fault.BadSize at) = fault.BadSize (d + at)
shifted_fault d (fault.BadPoint at) = fault.BadPoint (d + at)
shifted_fault d (fault.OffBoard at) = fault.OffBoard (d + at)
shifted_fault d fault.Memory = fault.Memory

-- the same value, or the fault with its place shifted
abbrev shifted_result : {A : Type 0} → ℕ → Result A RecordFault → Result A RecordFault
shifted_result d (Ok value) = Ok value
shifted_result d (Err found) = Err (shifted_fault d found)

abbrev shifted_first : ℕ → Option PropertyValue → Option PropertyValue
shifted_first d None = None
shifted_first d (Some value) = Some (shifted_value d value)

-- both sides of a test
either_way : {A : Type 0} (d : ℕ) (test : Bool) (x y x_after y_after : Result A RecordFault) → x_after ≡ shifted_result d x → y_after ≡ shifted_result d y →
    (if test then x_after else y_after) ≡ shifted_result d (if test then x else y)
either_way d true x y x_after y_after h k = h
either_way d false x y x_after y_after h k = k

-- ---- what one value does

shifted-played : (d : ℕ) (size : Extent) (colour : Colour) (at : ℕ) (point : Option Point) → played size colour (d + at) point ≡ shifted_result d (played size colour at point)
shifted-played d size colour at None = refl
shifted-played d size colour at (Some point) =
    either_way d (is_on size point) (Ok (action.Move colour point)) (Err (fault.OffBoard at)) (Ok (action.Move colour point)) (Err (fault.OffBoard (d + at))) refl refl

shifted-spanned : (d : ℕ) (size : Extent) (stone : Stone) (at : ℕ) (p q : Option Point) → spanned size stone (d + at) p q ≡ shifted_result d (spanned size stone at p q)
shifted-spanned d size stone at None q = refl
shifted-spanned d size stone at (Some p) None = refl
shifted-spanned d size stone at (Some p) (Some q) =
    let low : Point = record { column = min p.column q.column; row = min p.row q.row } in
    let high : Point = record { column = max p.column q.column; row = max p.row q.row } in
    let set : Result Action RecordFault = Ok (action.Set low high stone) in
    either_way d (is_on size p && is_on size q) set (Err (fault.OffBoard at)) set (Err (fault.OffBoard (d + at))) refl refl

shifted-always : (d : ℕ) (done : Result Action RecordFault) → always (shifted_result d done) ≡ shifted_result d (always done)
shifted-always d (Ok action) = refl
shifted-always d (Err found) = refl

shifted-setup_text : (d : ℕ) (size : Extent) (stone : Stone) (at : ℕ) (text : List ℕ) → setup_text size stone (d + at) text ≡ shifted_result d (setup_text size stone at text)
shifted-setup_text d size stone at [] = refl
shifted-setup_text d size stone at (byte ∷ bytes) =
    let spans = λ (p q : Option Point). ap always (shifted-spanned d size stone at p q) ∙ shifted-always d (spanned size stone at p q) in
    let low = point_of (trimmed (before_first is_colon (byte ∷ bytes))) in
    let high = point_of (trimmed (after_first is_colon (byte ∷ bytes))) in
    let alone = point_of (byte ∷ bytes) in
    either_way d (list_any is_colon (byte ∷ bytes)) (always (spanned size stone at low high)) (always (spanned size stone at alone alone))
    (always (spanned size stone (d + at) low high)) (always (spanned size stone (d + at) alone alone)) (spans low high) (spans alone alone)

shifted-move_of : (d : ℕ) (size : Extent) (colour : Colour) (value : PropertyValue) → always (move_of size colour (shifted_value d value)) ≡ shifted_result d (always (move_of size colour value))
shifted-move_of d size colour value =
    let at_point = point_of (trimmed value.bytes) in
    ap always (either_way d (is_pass size (trimmed value.bytes)) (Ok (action.Pass colour)) (played size colour value.at at_point)
    (Ok (action.Pass colour)) (played size colour (d + value.at) at_point) refl (shifted-played d size colour value.at at_point))
    ∙ shifted-always d (move_of size colour value)

-- ---- what a node does

shifted-setups_of : (d : ℕ) (size : Extent) (stone : Option Stone) (property : Property) → setups_of size stone (shifted_property d property) ≡ map (shifted_result d) (setups_of size stone property)
shifted-setups_of d size None property = refl
shifted-setups_of d size (Some stone) property =
    map-square (shifted_value d) (setup_of size stone) (setup_of size stone) (shifted_result d) (λ value. shifted-setup_text d size stone value.at (trimmed value.bytes)) property.values

shifted-moves_of : (d : ℕ) (size : Extent) (colour : Option Colour) (property : Property) → moves_of size colour (shifted_property d property) ≡ map (shifted_result d) (moves_of size colour property)
shifted-moves_of d size None property = refl
shifted-moves_of d size (Some colour) property =
    map-square (shifted_value d) (λ value. always (move_of size colour value)) (λ value. always (move_of size colour value)) (shifted_result d) (shifted-move_of d size colour) property.values

shifted-node_deeds : (d : ℕ) (size : Extent) (node : Node) → node_deeds size (shifted_node d node) ≡ map (shifted_result d) (node_deeds size node)
shifted-node_deeds d size node =
    let setups = λ (property : Property). setups_of size (setup_stone property) property in
    let moves = λ (property : Property). moves_of size (move_colour property) property in
    let first : flat_map setups (shifted_node d node) ≡ map (shifted_result d) (flat_map setups node) =
    flat_map-square (shifted_property d) setups setups (shifted_result d) (λ property. shifted-setups_of d size (setup_stone property) property) node in
    let then_moves : flat_map moves (shifted_node d node) ≡ map (shifted_result d) (flat_map moves node) =
    flat_map-square (shifted_property d) moves moves (shifted_result d) (λ property. shifted-moves_of d size (move_colour property) property) node in
    ap (λ ds. ds ++ flat_map moves (shifted_node d node)) first
    ∙ (ap (λ ds. map (shifted_result d) (flat_map setups node) ++ ds) then_moves ∙ sym (map-append (shifted_result d) (flat_map setups node) (flat_map moves node)))

-- ---- what a main line does

shifted-onto : (d : ℕ) (deed : Option Action) (others : Result (List Action) RecordFault) → onto deed (shifted_result d others) ≡ shifted_result d (onto deed others)
shifted-onto d None others = refl
shifted-onto d (Some action) (Ok actions) = refl
shifted-onto d (Some action) (Err found) = refl

shifted-collected : (d : ℕ) (deeds : List (Result (Option Action) RecordFault)) → collected (map (shifted_result d) deeds) ≡ shifted_result d (collected deeds)
shifted-collected d [] = refl
shifted-collected d (Err found ∷ deeds) = refl
shifted-collected d (Ok deed ∷ deeds) = ap (onto deed) (shifted-collected d deeds) ∙ shifted-onto d deed (collected deeds)

shifted-recorded : (d : ℕ) (size : Extent) (actions : Result (List Action) RecordFault) → recorded size (shifted_result d actions) ≡ shifted_result d (recorded size actions)
shifted-recorded d size (Ok actions) = refl
shifted-recorded d size (Err found) = refl

shifted-record_on : (d : ℕ) (nodes : List Node) (size : Result Extent RecordFault) → record_on (map (shifted_node d) nodes) (shifted_result d size) ≡ shifted_result d (record_on nodes size)
shifted-record_on d nodes (Err found) = refl
shifted-record_on d nodes (Ok size) =
    ap (λ deeds. recorded size (collected deeds)) (flat_map-square (shifted_node d) (node_deeds size) (node_deeds size) (shifted_result d) (shifted-node_deeds d size) nodes)
    ∙ (ap (recorded size) (shifted-collected d (flat_map (node_deeds size) nodes)) ∙ shifted-recorded d size (collected (flat_map (node_deeds size) nodes)))

-- ---- the properties of the first node

shifted-front_value : (d : ℕ) (values : List PropertyValue) → front_value (map (shifted_value d) values) ≡ shifted_first d (front_value values)
shifted-front_value d [] = refl
shifted-front_value d (value ∷ values) = refl

shifted-if_first : (d : ℕ) (test : Bool) (x y x_after y_after : Option PropertyValue) → x_after ≡ shifted_first d x → y_after ≡ shifted_first d y →
    (if test then x_after else y_after) ≡ shifted_first d (if test then x else y)
shifted-if_first d true x y x_after y_after h k = h
shifted-if_first d false x y x_after y_after h k = k

shifted-first_value : (d : ℕ) (name : List ℕ) (node : Node) → first_value name (shifted_node d node) ≡ shifted_first d (first_value name node)
shifted-first_value d name [] = refl
shifted-first_value d name (property ∷ node) =
    shifted-if_first d (is_named name property) (front_value property.values) (first_value name node) (front_value (map (shifted_value d) property.values)) (first_value name (shifted_node d node))
    (shifted-front_value d property.values) (shifted-first_value d name node)

shifted-root_of : (d : ℕ) (nodes : List Node) → root_of (map (shifted_node d) nodes) ≡ shifted_node d (root_of nodes)
shifted-root_of d [] = refl
shifted-root_of d (node ∷ nodes) = refl

shifted-is_go : (d : ℕ) (value : Option PropertyValue) → is_go (shifted_first d value) ≡ is_go value
shifted-is_go d None = refl
shifted-is_go d (Some value) = refl

shifted-size_or_fault : (d at : ℕ) (size : Option Extent) → size_or_fault (d + at) size ≡ shifted_result d (size_or_fault at size)
shifted-size_or_fault d at None = refl
shifted-size_or_fault d at (Some size) = refl

shifted-board_of : (d : ℕ) (value : Option PropertyValue) → board_of (shifted_first d value) ≡ shifted_result d (board_of value)
shifted-board_of d None = refl
shifted-board_of d (Some value) = shifted-size_or_fault d value.at (size_of value.bytes)

root_value : (d : ℕ) (name : List ℕ) (nodes : List Node) → first_value name (root_of (map (shifted_node d) nodes)) ≡ shifted_first d (first_value name (root_of nodes))
root_value d name nodes = ap (first_value name) (shifted-root_of d nodes) ∙ shifted-first_value d name (root_of nodes)

-- ---- the record

shifted-record_of : (d : ℕ) (nodes : List Node) → record_of (map (shifted_node d) nodes) ≡ shifted_result d (record_of nodes)
shifted-record_of d nodes =
    let after = map (shifted_node d) nodes in
    let go = first_value (codes "GM") (root_of nodes) in
    let go_after = first_value (codes "GM") (root_of after) in
    let board = first_value (codes "SZ") (root_of nodes) in
    let board_after = first_value (codes "SZ") (root_of after) in
    let same_go : is_go go_after ≡ is_go go = ap is_go (root_value d (codes "GM") nodes) ∙ shifted-is_go d go in
    let same_board : board_of board_after ≡ shifted_result d (board_of board) = ap board_of (root_value d (codes "SZ") nodes) ∙ shifted-board_of d board in
    ap (λ test. if test then record_on after (board_of board_after) else Ok kind.Other) same_go
    ∙ either_way d (is_go go) (record_on nodes (board_of board)) (Ok kind.Other) (record_on after (board_of board_after)) (Ok kind.Other)
    (ap (record_on after) same_board ∙ shifted-record_on d nodes (board_of board)) refl

shifted-first_line : (d : ℕ) (forest : Forest) → first_line (shifted_forest d forest) ≡ map (shifted_node d) (first_line forest)
shifted-first_line d no_trees = refl
shifted-first_line d (a_tree nodes inner rest) =
    ap (λ ns. map (shifted_node d) nodes ++ ns) (shifted-first_line d inner) ∙ sym (map-append (shifted_node d) nodes (first_line inner))

shifted-record_of_tree : (d : ℕ) (tree : GameTree) → record_of_tree (shifted_tree d tree) ≡ shifted_result d (record_of_tree tree)
shifted-record_of_tree d tree =
    ap (λ ns. record_of (map (shifted_node d) tree.nodes ++ ns)) (shifted-first_line d tree.inner)
    ∙ (ap record_of (sym (map-append (shifted_node d) tree.nodes (first_line tree.inner))) ∙ shifted-record_of d (main_line_of tree))

shifted-games_among : (d : ℕ) (records : List (Result Kind RecordFault)) → games_among (map (shifted_result d) records) ≡ games_among records
shifted-games_among d [] = refl
shifted-games_among d (Ok (kind.Go game) ∷ records) = ap (λ games. game ∷ games) (shifted-games_among d records)
shifted-games_among d (Ok kind.Other ∷ records) = shifted-games_among d records
shifted-games_among d (Err found ∷ records) = shifted-games_among d records

-- shifted trees have the games of the trees
pub same_games : (d : ℕ) (trees : List GameTree) → games_among (map record_of_tree (map (shifted_tree d) trees)) ≡ games_among (map record_of_tree trees)
same_games d trees =
    ap games_among (map-square (shifted_tree d) record_of_tree record_of_tree (shifted_result d) (shifted-record_of_tree d) trees)
    ∙ shifted-games_among d (map record_of_tree trees)
