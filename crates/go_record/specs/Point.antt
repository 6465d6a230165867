-- How points are spelled: two letters, the column from the left and the row from the top, of which `a` to `z` are the
-- first to the 26th and `A` to `Z` the 27th to the 52nd (SGF FF[4], GM[1]). Columns and rows count from 0.
use Rattle.std.specs.Prelude.{ℕ, ◌+◌, ◌-◌, Option, Some, None, List, [], ◌∷◌, if◌then◌else◌}
use Rattle.sgf_core.specs.Bytes.{is_upper, is_lower}
use Rattle.go_board.specs.declared.points.Point.{Point}

abbrev pub coordinate_of : ℕ → Option ℕ
coordinate_of letter =
    if is_lower letter then Some (letter - 97) else (if is_upper letter then Some (letter - 65 + 26) else None)

abbrev pub point_at : Option ℕ → Option ℕ → Option Point
point_at (Some column) (Some row) = Some (record { column = column; row = row })
point_at _ _ = None

abbrev pub point_of : List ℕ → Option Point
point_of (column ∷ row ∷ []) = point_at (coordinate_of column) (coordinate_of row)
point_of _ = None
