-- A record that a tree has is on its board.
use Rattle.std.proofs.Common.{◌≡◌, ℕ, min, max, Bool, true, false, cond, List, [], ◌∷◌, map, All, Option, Some, None, Result, Ok, Err, refl, sym, subst, arith, codes}
use Rattle.std.specs.Prelude.{◌&&◌, nat_lt}
use Rattle.std.specs.List.{flat_map, list_any, before_first, after_first}
use Rattle.std.proofs.lemmas.Bool.Decides.{Decides-ltb}
use Rattle.std.proofs.lemmas.List.Elements.{All-nil, All-cons, All-append, All-head, All-tail}
use Rattle.std.proofs.lemmas.List.Concat.{flat_map-cons}
use Rattle.sgf_core.specs.Tree.{PropertyValue, Property, Node}
use Rattle.go_board.specs.Extent.{Extent}
use Rattle.go_board.specs.Point.{IsOn, is_on}
use Rattle.go_board.specs.declared.points.Point.{Point}
use Rattle.go_board.specs.declared.points.Colour.{Colour}
use Rattle.go_board.specs.declared.points.Stone.{Stone}
use Rattle.go_record.specs.declared.actions.Action.{Action}
use Rattle.go_record.specs.declared.actions.Action.TheVariants as action
use Rattle.go_record.specs.declared.records.Kind.{Kind}
use Rattle.go_record.specs.declared.records.Kind.TheVariants as kind
use Rattle.go_record.specs.declared.faults.RecordFault.{RecordFault}
use Rattle.go_record.specs.declared.faults.RecordFault.TheVariants as fault
use Rattle.go_record.specs.Actions.{Actions, IsActionOn, AreOnBoard}
use Rattle.go_record.specs.Spelling.{trimmed, is_colon}
use Rattle.go_record.specs.Point.{point_of}
use Rattle.go_record.specs.Setup.{is_pass, played, move_of, spanned, always, setup_text, setup_of}
use Rattle.go_record.specs.Record.{setup_stone, move_colour, setups_of, moves_of, node_deeds, onto, collected, recorded, record_on, record_of, is_go, first_value, root_of, board_of}

both : (a b : Bool) → (a && b) ≡ true → (a ≡ true) × (b ≡ true)
both true true h = (refl, refl)
both true false h = absurd (cc)
both false b h = absurd (cc)

on_of : (size : Extent) (p : Point) → is_on size p ≡ true → IsOn size p
on_of size p h =
    let b = both (nat_lt p.column size.columns) (nat_lt p.row size.rows) h in
    ((Decides-ltb p.column size.columns).0 b.0, (Decides-ltb p.row size.rows).0 b.1)

-- an action that a value is
abbrev IsOnIfOk : Extent → Result Action RecordFault → Type 0
IsOnIfOk size found = (a : Action) → found ≡ Ok a → IsActionOn size a

ok_on : (size : Extent) (a : Action) → IsActionOn size a → IsOnIfOk size (Ok a)
ok_on size a on b h = subst (IsActionOn size) (cc) on

err_on : (size : Extent) (found : RecordFault) → IsOnIfOk size (Err found)
err_on size found b h = absurd (cc)

played_on : (size : Extent) (colour : Colour) (at : ℕ) (found : Option Point) → IsOnIfOk size (played size colour at found)
played_on size colour at None = err_on size (fault.BadPoint at)
played_on size colour at (Some p) = by_test (is_on size p) refl
  where
    by_test : (b : Bool) → is_on size p ≡ b → IsOnIfOk size (cond b (Ok (action.Move colour p)) (Err (fault.OffBoard at)))
    by_test true h = ok_on size (action.Move colour p) (on_of size p h)
    by_test false h = err_on size (fault.OffBoard at)

move_on : (size : Extent) (colour : Colour) (value : PropertyValue) → IsOnIfOk size (move_of size colour value)
move_on size colour value = by_test (is_pass size (trimmed value.bytes))
  where
    by_test : (b : Bool) → IsOnIfOk size (cond b (Ok (action.Pass colour)) (played size colour value.at (point_of (trimmed value.bytes))))
    by_test true = ok_on size (action.Pass colour) tt
    by_test false = played_on size colour value.at (point_of (trimmed value.bytes))

spanned_on : (size : Extent) (stone : Stone) (at : ℕ) (p q : Option Point) → IsOnIfOk size (spanned size stone at p q)
spanned_on size stone at (Some p) (Some q) = by_test (is_on size p && is_on size q) refl
  where
    low : Point
    low = record { column = min p.column q.column; row = min p.row q.row }

    high : Point
    high = record { column = max p.column q.column; row = max p.row q.row }

    by_test : (b : Bool) → (is_on size p && is_on size q) ≡ b → IsOnIfOk size (cond b (Ok (action.Set low high stone)) (Err (fault.OffBoard at)))
    by_test true h =
        let b = both (is_on size p) (is_on size q) h in
        let one = on_of size p b.0 in
        let other = on_of size q b.1 in
        ok_on size (action.Set low high stone) ((omega arith, omega arith), (omega arith, omega arith), omega arith, omega arith)
    by_test false h = err_on size (fault.OffBoard at)
spanned_on size stone at (Some p) None = err_on size (fault.BadPoint at)
spanned_on size stone at None q = err_on size (fault.BadPoint at)

-- an action that a deed is
abbrev IsDeedOn : Extent → Result (Option Action) RecordFault → Type 0
IsDeedOn size deed = (a : Action) → deed ≡ Ok (Some a) → IsActionOn size a

always_on : (size : Extent) (found : Result Action RecordFault) → IsOnIfOk size found → IsDeedOn size (always found)
always_on size (Ok a) on b h = on b (cc)
always_on size (Err found) on b h = absurd (cc)

setup_text_on : (size : Extent) (stone : Stone) (at : ℕ) (text : List ℕ) → IsDeedOn size (setup_text size stone at text)
setup_text_on size stone at [] a h = absurd (cc)
setup_text_on size stone at (byte ∷ bytes) a h = by_test (list_any is_colon (byte ∷ bytes)) a h
  where
    first : Option Point
    first = point_of (trimmed (before_first is_colon (byte ∷ bytes)))

    second : Option Point
    second = point_of (trimmed (after_first is_colon (byte ∷ bytes)))

    alone : Option Point
    alone = point_of (byte ∷ bytes)

    by_test : (b : Bool) → IsDeedOn size (cond b (always (spanned size stone at first second)) (always (spanned size stone at alone alone)))
    by_test true = always_on size (spanned size stone at first second) (spanned_on size stone at first second)
    by_test false = always_on size (spanned size stone at alone alone) (spanned_on size stone at alone alone)

each_on : {X : Type 0} (size : Extent) (deed : X → Result (Option Action) RecordFault) → ((x : X) → IsDeedOn size (deed x)) → (xs : List X) → All (IsDeedOn size) (map deed xs)
each_on size deed on [] = All-nil (IsDeedOn size)
each_on size deed on (x ∷ xs) = All-cons (IsDeedOn size) (deed x) (map deed xs) (on x) (each_on size deed on xs)

all_on : {X : Type 0} (size : Extent) (deeds : X → List (Result (Option Action) RecordFault)) → ((x : X) → All (IsDeedOn size) (deeds x)) → (xs : List X) → All (IsDeedOn size) (flat_map deeds xs)
all_on size deeds on [] = All-nil (IsDeedOn size)
all_on size deeds on (x ∷ xs) =
    subst (All (IsDeedOn size)) (sym (flat_map-cons deeds x xs)) (All-append (IsDeedOn size) (deeds x) (flat_map deeds xs) (on x) (all_on size deeds on xs))

setups_on : (size : Extent) (stone : Option Stone) (property : Property) → All (IsDeedOn size) (setups_of size stone property)
setups_on size None property = All-nil (IsDeedOn size)
setups_on size (Some stone) property = each_on size (setup_of size stone) (λ value. setup_text_on size stone value.at (trimmed value.bytes)) property.values

moves_on : (size : Extent) (colour : Option Colour) (property : Property) → All (IsDeedOn size) (moves_of size colour property)
moves_on size None property = All-nil (IsDeedOn size)
moves_on size (Some colour) property =
    each_on size (λ value. always (move_of size colour value)) (λ value. always_on size (move_of size colour value) (move_on size colour value)) property.values

node_on : (size : Extent) (node : Node) → All (IsDeedOn size) (node_deeds size node)
node_on size node =
    All-append (IsDeedOn size) (flat_map (λ property. setups_of size (setup_stone property) property) node) (flat_map (λ property. moves_of size (move_colour property) property) node)
    (all_on size (λ property. setups_of size (setup_stone property) property) (λ property. setups_on size (setup_stone property) property) node)
    (all_on size (λ property. moves_of size (move_colour property) property) (λ property. moves_on size (move_colour property) property) node)

-- the actions of results that are on the board
abbrev AreOnIfOk : Extent → Result (List Action) RecordFault → Type 0
AreOnIfOk size found = (actions : List Action) → found ≡ Ok actions → All (IsActionOn size) actions

onto_on : (size : Extent) (deed : Option Action) (others : Result (List Action) RecordFault) → IsDeedOn size (Ok deed) → AreOnIfOk size others → AreOnIfOk size (onto deed others)
onto_on size None others on h more is = h more is
onto_on size (Some a) (Ok actions) on h more is =
    let same : a ∷ actions ≡ more = cc in
    subst (All (IsActionOn size)) same (All-cons (IsActionOn size) a actions (on a refl) (h actions refl))
onto_on size (Some a) (Err found) on h more is = absurd (cc)

collected_on : (size : Extent) (deeds : List (Result (Option Action) RecordFault)) → All (IsDeedOn size) deeds → AreOnIfOk size (collected deeds)
collected_on size [] on actions is = let same : ◌≡◌ {A = List Action} [] actions = cc in subst (All (IsActionOn size)) same (All-nil (IsActionOn size))
collected_on size (Err found ∷ deeds) on actions is = absurd (cc)
collected_on size (Ok deed ∷ deeds) on actions is =
    onto_on size deed (collected deeds) (All-head (IsDeedOn size) (Ok deed) deeds on) (collected_on size deeds (All-tail (IsDeedOn size) (Ok deed) deeds on)) actions is

abbrev IsRecordOn : Result Kind RecordFault → Type 0
IsRecordOn found = (game : Actions) → found ≡ Ok (kind.Go game) → AreOnBoard game

recorded_on : (size : Extent) (actions : Result (List Action) RecordFault) → AreOnIfOk size actions → IsRecordOn (recorded size actions)
recorded_on size (Err found) on game is = absurd (cc)
recorded_on size (Ok actions) on game is =
    let same : ◌≡◌ {A = Actions} (record { size = size; actions = actions }) game = cc in subst AreOnBoard same (on actions refl)

record_on_board : (nodes : List Node) (size : Result Extent RecordFault) → IsRecordOn (record_on nodes size)
record_on_board nodes (Err found) game is = absurd (cc)
record_on_board nodes (Ok size) game is =
    let deeds = flat_map (node_deeds size) nodes in
    recorded_on size (collected deeds) (collected_on size deeds (all_on size (node_deeds size) (node_on size) nodes)) game is

-- every point of a record is on its board
pub is_on_board : (nodes : List Node) (game : Actions) → record_of nodes ≡ Ok (kind.Go game) → AreOnBoard game
is_on_board nodes = by_test (is_go (first_value (codes "GM") (root_of nodes)))
  where
    by_test : (b : Bool) → IsRecordOn (cond b (record_on nodes (board_of (first_value (codes "SZ") (root_of nodes)))) (Ok kind.Other))
    by_test true game is = record_on_board nodes (board_of (first_value (codes "SZ") (root_of nodes))) game is
    by_test false game is = absurd (cc)
