-- The word of a point of a position: its surroundings, cell by cell.
use Rattle.std.specs.Prelude.{ℕ, ℤ, pos, negsuc, ◌+◌, ◌-◌, nat_lt, ◌&&◌, Option, Some, None, map, if◌then◌else◌}
use Rattle.go_board.specs.Extent.{Extent}
use Rattle.go_board.specs.Position.{Position}
use Rattle.go_board.specs.declared.points.Point.{Point}
use Rattle.go_board.specs.declared.points.Stone.{Stone}
use Rattle.go_board.specs.declared.points.Stone.TheVariants as stone
use Rattle.shape_core.specs.declared.words.Kind.{Kind}
use Rattle.shape_core.specs.Offset.{Offset, offsets_of}
use Rattle.shape_core.specs.Word.{word_of}

-- a column or a row at a distance from another, or None before the first
abbrev pub shifted : ℕ → ℤ → Option ℕ
shifted n (pos d) = Some (n + d)
shifted n (negsuc d) = if nat_lt d n then Some (n - (d + 1)) else None

-- the code of what stands on a point
abbrev pub stone_code : Stone → ℕ
stone_code stone.Empty = 0
stone_code stone.Black = 1
stone_code stone.White = 2

-- the code of a column and a row of a position: that of its stone, or 3 off the board
abbrev pub code_there : Extent → Position → Option ℕ → Option ℕ → ℕ
code_there size position (Some column) (Some row) =
    if nat_lt column size.columns && nat_lt row size.rows
    then stone_code (position (record { column = column; row = row }))
    else 3
code_there size position _ _ = 3

-- the code of the cell at an offset from a point
abbrev pub code_around : Extent → Position → Point → Offset → ℕ
code_around size position point offset =
    code_there size position (shifted point.column offset.dx) (shifted point.row offset.dy)

-- the word of the cells round a point
unfoldable pub word_around : Kind → Extent → Position → Point → ℕ
word_around kind size position point = word_of kind (map (code_around size position point) (offsets_of kind))
