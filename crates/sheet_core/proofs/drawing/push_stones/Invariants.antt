use Rattle.std.proofs.Common.{◌≡◌, ◌++◌, drop}
use Rattle.std.specs.List.{flat_map}
use Rattle.sheet_core.specs.Drawing.{stone_text}
use Rattle.sheet_core.proofs.drawing.push_stones.Given as goal

abbrev pub invariant-loop-cell : goal.invariant-loop-cell
invariant-loop-cell l =
    l.text.items ++ flat_map stone_text (drop l.cell-index l.cells) ≡ l.fn.text.items ++ flat_map stone_text l.cells
