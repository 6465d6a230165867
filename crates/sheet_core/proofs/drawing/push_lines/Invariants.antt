use Rattle.std.proofs.Common.{◌≡◌, ◌++◌, drop, codes}
use Rattle.std.specs.List.{flat_map}
use Rattle.sheet_core.specs.Drawing.{cross_text}
use Rattle.sheet_core.proofs.drawing.push_lines.Given as goal

abbrev pub invariant-loop-cell : goal.invariant-loop-cell
invariant-loop-cell l =
    l.text.items ++ flat_map (cross_text l.cells) (drop l.cell-index l.cells)
    ≡ (l.fn.text.items ++ codes "<path class='grid' d='") ++ flat_map (cross_text l.cells) l.cells
