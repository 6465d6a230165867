use Rattle.std.proofs.Common.{◌≡◌, ◌++◌, drop, codes}
use Rattle.std.specs.List.{flat_map}
use Rattle.sheet_core.specs.Drawing.{tile_text}
use Rattle.sheet_core.proofs.drawing.push_tiles.Given as goal

abbrev pub invariant-loop-cell : goal.invariant-loop-cell
invariant-loop-cell l =
    l.text.items ++ flat_map tile_text (drop l.cell-index l.cells)
    ≡ (l.fn.text.items ++ codes "<path class='wood' d='") ++ flat_map tile_text l.cells
