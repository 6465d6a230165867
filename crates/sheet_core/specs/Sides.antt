-- The sides of a cell, and where the board ends.
use Rattle.std.specs.Prelude.{◌+◌, ◌==◌, ◌&&◌, not, Bool, List}
use Rattle.std.specs.List.{list_any}
use Rattle.sheet_core.specs.declared.cells.Cell.{Cell}
use Rattle.sheet_core.specs.declared.sides.Side.{Side}
use Rattle.sheet_core.specs.declared.sides.Side.TheVariants as side
use Rattle.sheet_core.specs.Cells.{is_on}

-- the other cell is the next one on this side of the cell
abbrev pub is_beside : Side → Cell → Cell → Bool
is_beside side.Right cell other = other.row == cell.row && other.column == cell.column + 1
is_beside side.Below cell other = other.column == cell.column && other.row == cell.row + 1
is_beside side.Left cell other = other.row == cell.row && cell.column == other.column + 1
is_beside side.Above cell other = other.column == cell.column && cell.row == other.row + 1

-- it is the next one on this side, and off the board
abbrev pub is_end : Side → Cell → Cell → Bool
is_end toward cell other = is_beside toward cell other && not (is_on other)

-- the board ends at the cell on this side, as these cells have it
abbrev pub ends_at : Side → List Cell → Cell → Bool
ends_at toward cells cell = list_any (is_end toward cell) cells
