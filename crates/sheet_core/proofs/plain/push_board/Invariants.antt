use Rattle.std.proofs.Common.{◌≡◌, ◌++◌, drop}
use Rattle.std.specs.List.{flat_map}
use Rattle.sheet_core.specs.Plain.{row_text}
use Rattle.sheet_core.proofs.plain.push_board.Given as goal

abbrev pub invariant-loop-row : goal.invariant-loop-row
invariant-loop-row l =
    l.text.items ++ flat_map (row_text l.marked) (drop l.row-index l.row-items)
    ≡ l.fn.text.items ++ flat_map (row_text l.marked) l.row-items
