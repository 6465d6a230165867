-- The board of a game's record has sides from 1 to 52.
use Rattle.std.proofs.Common.{◌≡◌, ℕ, ◌≤◌, ◌&&◌, nat_le, true, false, cond, List, [], ◌∷◌, Option, Some, None, Result, Ok, Err, IfSome, refl, subst, arith}
use Rattle.std.specs.Prelude.{codes}
use Rattle.std.specs.List.{flat_map, list_any, before_first, after_first}
use Rattle.std.proofs.lemmas.Bool.Decides.{nat_tests}
use Rattle.sgf_core.specs.Tree.{PropertyValue, Node}
use Rattle.go_board.specs.Extent.{Extent, IsExtent}
use Rattle.go_record.specs.Actions.{Actions}
use Rattle.go_record.specs.Spelling.{trimmed, number_of, within_sides, side_of, is_colon, extent_of, size_text, size_of}
use Rattle.go_record.specs.Record.{record_of, record_on, recorded, collected, node_deeds, is_go, first_value, root_of, board_of, size_or_fault}
use Rattle.go_record.specs.declared.actions.Action.{Action}
use Rattle.go_record.specs.declared.faults.RecordFault.{RecordFault}
use Rattle.go_record.specs.declared.records.Kind.{Kind}
use Rattle.go_record.specs.declared.records.Kind.TheVariants as kind

-- a side of a board
abbrev IsSide : ℕ → Type 0
IsSide n = (1 ≤ n) × (n ≤ 52)

side_within : (n : Option ℕ) → IfSome (within_sides n) IsSide
side_within None = tt
side_within (Some n) =
    elim (nat_le 1 n && nat_le n 52) as (λ b. (nat_le 1 n && nat_le n 52) ≡ b → IfSome (cond b (Some n) None) IsSide) [
      | true ↦ λ test. (let low : 1 ≤ n = Prim.grind (arith, nat_tests) in low, let high : n ≤ 52 = Prim.grind (arith, nat_tests) in high)
      | false ↦ λ test. tt
    ] refl

both_within : (columns rows : Option ℕ) → IfSome columns IsSide → IfSome rows IsSide → IfSome (extent_of columns rows) IsExtent
both_within (Some columns) (Some rows) c r = record { some_columns = c.0; few_columns = c.1; some_rows = r.0; few_rows = r.1 }
both_within (Some columns) None c r = tt
both_within None (Some rows) c r = tt
both_within None None c r = tt

usual : IsExtent (record { columns = 19; rows = 19 })
usual = record { some_columns = omega arith; few_columns = omega arith; some_rows = omega arith; few_rows = omega arith }

text_within : (text : List ℕ) → IfSome (size_text text) IsExtent
text_within [] = usual
text_within (byte ∷ bytes) =
    let text = byte ∷ bytes in
    let first = side_of (trimmed (before_first is_colon text)) in
    let second = side_of (trimmed (after_first is_colon text)) in
    let side = side_of text in
    elim (list_any is_colon text) as (λ b. IfSome (cond b (extent_of first second) (extent_of side side)) IsExtent) [
      | true ↦ both_within first second (side_within (number_of (trimmed (before_first is_colon text)))) (side_within (number_of (trimmed (after_first is_colon text))))
      | false ↦ both_within side side (side_within (number_of text)) (side_within (number_of text))
    ]

-- a board that was found has such sides
abbrev IsBoard : Result Extent RecordFault → Type 0
IsBoard (Ok size) = IsExtent size
IsBoard (Err found) = Unit {0}

spelled : (at : ℕ) (size : Option Extent) → IfSome size IsExtent → IsBoard (size_or_fault at size)
spelled at None h = tt
spelled at (Some size) h = h

board_is : (value : Option PropertyValue) → IsBoard (board_of value)
board_is None = usual
board_is (Some value) = spelled value.at (size_of value.bytes) (text_within (trimmed value.bytes))

-- and so has a game's record
abbrev IsSized : Result Kind RecordFault → Type 0
IsSized (Ok (kind.Go game)) = IsExtent game.size
IsSized (Ok kind.Other) = Unit {0}
IsSized (Err found) = Unit {0}

recorded_is : (size : Extent) (actions : Result (List Action) RecordFault) → IsExtent size → IsSized (recorded size actions)
recorded_is size (Ok actions) extent = extent
recorded_is size (Err found) extent = tt

on_board : (nodes : List Node) (board : Result Extent RecordFault) → IsBoard board → IsSized (record_on nodes board)
on_board nodes (Ok size) h = recorded_is size (collected (flat_map (node_deeds size) nodes)) h
on_board nodes (Err found) h = tt

record_is : (nodes : List Node) → IsSized (record_of nodes)
record_is nodes =
    let board = board_of (first_value (codes "SZ") (root_of nodes)) in
    elim (is_go (first_value (codes "GM") (root_of nodes))) as (λ b. IsSized (cond b (record_on nodes board) (Ok kind.Other))) [
      | true ↦ on_board nodes board (board_is (first_value (codes "SZ") (root_of nodes)))
      | false ↦ tt
    ]

pub sized : (nodes : List Node) (game : Actions) → record_of nodes ≡ Ok (kind.Go game) → IsExtent game.size
sized nodes game is = subst IsSized is (record_is nodes)
