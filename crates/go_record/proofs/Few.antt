-- A record has no more actions than its nodes have values.
use Rattle.std.proofs.Common.{◌≡◌, ℕ, ◌+◌, ◌≤◌, Bool, true, false, List, [], ◌∷◌, ◌++◌, length, Option, Some, None, Result, Ok, Err, refl, ap, subst, arith, length-append}
use Rattle.std.specs.Prelude.{codes, sum_by, if◌then◌else◌}
use Rattle.std.specs.List.{flat_map}
use Rattle.std.specs.Str.{bytes_eq}
use Rattle.std.proofs.lemmas.List.{length-map}
use Rattle.std.proofs.lemmas.List.Sums.{sum_by-cons}
use Rattle.std.proofs.lemmas.Slice.Eq.{bytes_eq-Decides}
use Rattle.sgf_core.specs.Tree.{Property, Node, name_of}
use Rattle.sgf_core.specs.Counts.{value_count}
use Rattle.go_board.specs.Extent.{Extent}
use Rattle.go_board.specs.declared.points.Colour.{Colour}
use Rattle.go_board.specs.declared.points.Colour.TheVariants as colour
use Rattle.go_board.specs.declared.points.Stone.{Stone}
use Rattle.go_board.specs.declared.points.Stone.TheVariants as stone
use Rattle.go_record.specs.Actions.{Actions}
use Rattle.go_record.specs.Setup.{move_of, setup_of, always}
use Rattle.go_record.specs.Record.{record_of, record_on, recorded, is_go, board_of, root_of, first_value, collected, onto, node_deeds, setup_stone, move_colour, setups_of, moves_of}
use Rattle.go_record.specs.declared.actions.Action.{Action}
use Rattle.go_record.specs.declared.faults.RecordFault.{RecordFault}
use Rattle.go_record.specs.declared.records.Kind.{Kind}
use Rattle.go_record.specs.declared.records.Kind.TheVariants as kind

-- how many actions there are
amount : Result (List Action) RecordFault → ℕ
amount (Ok actions) = length actions
amount (Err found) = 0

onto-amount : (action : Action) (others : Result (List Action) RecordFault) → amount (onto (Some action) others) ≤ amount others + 1
unfolding amount
onto-amount action (Ok actions) = omega arith
onto-amount action (Err found) = omega arith

collected-few : (deeds : List (Result (Option Action) RecordFault)) → amount (collected deeds) ≤ length deeds
unfolding amount
collected-few [] = omega arith
collected-few (Err found ∷ deeds) = omega arith
collected-few (Ok None ∷ deeds) = let later = collected-few deeds in omega arith
collected-few (Ok (Some action) ∷ deeds) =
    let later = collected-few deeds in
    let here = onto-amount action (collected deeds) in
    omega arith

-- what a setup property of this name sets, and whose moves one of this name has
stone_named : List ℕ → Option Stone
stone_named name =
    if bytes_eq name (codes "AB") then Some stone.Black
    else (if bytes_eq name (codes "AW") then Some stone.White
    else (if bytes_eq name (codes "AE") then Some stone.Empty else None))

-- no property sets stones and plays them
black_sets_none : (name : List ℕ) → bytes_eq name (codes "B") ≡ true → stone_named name ≡ None
unfolding stone_named
black_sets_none name test = ap stone_named ((bytes_eq-Decides name (codes "B")).0 test)

white_sets_none : (name : List ℕ) → bytes_eq name (codes "W") ≡ true → stone_named name ≡ None
unfolding stone_named
white_sets_none name test = ap stone_named ((bytes_eq-Decides name (codes "W")).0 test)

setups-few : (size : Extent) (stone : Option Stone) (property : Property) → length (setups_of size stone property) ≤ length property.values
setups-few size None property = omega arith
setups-few size (Some stone) property = let l = length-map property.values (setup_of size stone) in omega arith

moves-few : (size : Extent) (mover : Option Colour) (property : Property) → length (moves_of size mover property) ≤ length property.values
moves-few size None property = omega arith
moves-few size (Some mover) property = let l = length-map property.values (λ value. always (move_of size mover value)) in omega arith

-- one of the two
either-few : (size : Extent) (property : Property) (stone : Option Stone) (black white : Bool) →
    (black ≡ true → stone ≡ None) → (white ≡ true → stone ≡ None) →
    length (setups_of size stone property)
    + length (moves_of size (if black then Some colour.Black else (if white then Some colour.White else None)) property)
    ≤ length property.values
either-few size property stone true white by_black by_white =
    let m = moves-few size (Some colour.Black) property in
    let s : length (setups_of size stone property) ≡ 0 = ap (λ o. length (setups_of size o property)) (by_black refl) in
    omega arith
either-few size property stone false true by_black by_white =
    let m = moves-few size (Some colour.White) property in
    let s : length (setups_of size stone property) ≡ 0 = ap (λ o. length (setups_of size o property)) (by_white refl) in
    omega arith
either-few size property stone false false by_black by_white = let s = setups-few size stone property in omega arith

property-few : (size : Extent) (property : Property) →
    length (setups_of size (setup_stone property) property) + length (moves_of size (move_colour property) property) ≤ length property.values
unfolding stone_named
property-few size property =
    let name = name_of property.identifier in
    either-few size property (stone_named name) (bytes_eq name (codes "B")) (bytes_eq name (codes "W")) (black_sets_none name) (white_sets_none name)

node-few : (size : Extent) (node : Node) →
    length (flat_map (λ property. setups_of size (setup_stone property) property) node)
    + length (flat_map (λ property. moves_of size (move_colour property) property) node)
    ≤ sum_by (λ property. length property.values) node
node-few size [] = omega arith
node-few size (property ∷ node) =
    let setups = λ (p : Property). setups_of size (setup_stone p) p in
    let moves = λ (p : Property). moves_of size (move_colour p) p in
    let here = property-few size property in
    let later = node-few size node in
    let e : sum_by (λ (p : Property). length p.values) (property ∷ node) ≡ length property.values + sum_by (λ p. length p.values) node = sum_by-cons (λ (p : Property). length p.values) property node in
    let s : length (setups property ++ flat_map setups node) ≡ length (setups property) + length (flat_map setups node) = length-append (setups property) (flat_map setups node) in
    let m : length (moves property ++ flat_map moves node) ≡ length (moves property) + length (flat_map moves node) = length-append (moves property) (flat_map moves node) in
    omega arith

nodes-few : (size : Extent) (nodes : List Node) → length (flat_map (node_deeds size) nodes) ≤ value_count nodes
nodes-few size [] = omega arith
nodes-few size (node ∷ nodes) =
    let here = node-few size node in
    let later = nodes-few size nodes in
    let e : value_count (node ∷ nodes) ≡ sum_by (λ property. length property.values) node + value_count nodes = sum_by-cons (λ (n : Node). sum_by (λ p. length p.values) n) node nodes in
    let l = length-append (node_deeds size node) (flat_map (node_deeds size) nodes) in
    let k = length-append (flat_map (λ property. setups_of size (setup_stone property) property) node) (flat_map (λ property. moves_of size (move_colour property) property) node) in
    omega arith

-- how many actions a record has
kind_amount : Result Kind RecordFault → ℕ
kind_amount (Ok (kind.Go game)) = length game.actions
kind_amount (Ok kind.Other) = 0
kind_amount (Err found) = 0

recorded-few : (size : Extent) (actions : Result (List Action) RecordFault) → kind_amount (recorded size actions) ≤ amount actions
unfolding kind_amount amount
recorded-few size (Ok actions) = omega arith
recorded-few size (Err found) = omega arith

board-few : (nodes : List Node) (board : Result Extent RecordFault) → kind_amount (record_on nodes board) ≤ value_count nodes
unfolding kind_amount
board-few nodes (Err found) = omega arith
board-few nodes (Ok size) =
    let r = recorded-few size (collected (flat_map (node_deeds size) nodes)) in
    let c = collected-few (flat_map (node_deeds size) nodes) in
    let n = nodes-few size nodes in
    omega arith

any-few : (nodes : List Node) (go : Bool) (board : Result Extent RecordFault) → kind_amount (if go then record_on nodes board else Ok kind.Other) ≤ value_count nodes
unfolding kind_amount
any-few nodes true board = board-few nodes board
any-few nodes false board = omega arith

pub few : (nodes : List Node) (game : Actions) → record_of nodes ≡ Ok (kind.Go game) → length game.actions ≤ value_count nodes
unfolding kind_amount
few nodes game h =
    subst (λ r. kind_amount r ≤ value_count nodes) h
    (any-few nodes (is_go (first_value (codes "GM") (root_of nodes))) (board_of (first_value (codes "SZ") (root_of nodes))))
