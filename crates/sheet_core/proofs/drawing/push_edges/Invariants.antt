use Rattle.std.proofs.Common.{◌≡◌, ◌++◌, drop, codes}
use Rattle.std.specs.List.{flat_map}
use Rattle.sheet_core.specs.Drawing.{edge_text}
use Rattle.sheet_core.proofs.drawing.push_edges.Given as goal

abbrev pub invariant-loop-cell : goal.invariant-loop-cell
invariant-loop-cell l =
    l.text.items ++ flat_map (edge_text l.cells) (drop l.cell-index l.cells)
    ≡ (l.fn.text.items ++ codes "<path class='edge' d='") ++ flat_map (edge_text l.cells) l.cells
