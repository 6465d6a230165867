-- Points of a board: columns from the left and rows from the top, both from 0.
use Rattle.std.specs.Prelude.{◌≡◌, ℕ, ◌+◌, ◌*◌, ◌<◌, ◌⊎◌, ◌==◌, nat_lt, ◌&&◌, Bool}
use Rattle.go_board.specs.declared.points.Point.{Point}
use Rattle.go_board.specs.Extent.{Extent}

-- the point is on a board of this size
abbrev pub IsOn : Extent → Point → Type 0
IsOn size point = (point.column < size.columns) × (point.row < size.rows)

-- whether the point is on a board of this size
abbrev pub is_on : Extent → Point → Bool
is_on size point = nat_lt point.column size.columns && nat_lt point.row size.rows

-- one apart
abbrev pub AreAdjacent : ℕ → ℕ → Type 0
AreAdjacent a b = (a + 1 ≡ b) ⊎ (b + 1 ≡ a)

-- two points are neighbours where they differ by one in the column or in the row, and not in both
abbrev pub AreNeighbours : Point → Point → Type 0
AreNeighbours p q =
    (AreAdjacent p.column q.column × (p.row ≡ q.row)) ⊎ ((p.column ≡ q.column) × AreAdjacent p.row q.row)

-- whether two points are one
abbrev pub same_point : Point → Point → Bool
same_point p q = (p.column == q.column) && (p.row == q.row)

-- the place of a point in a list of the points row by row from the top, each row from the left
abbrev pub index_of : Extent → Point → ℕ
index_of size point = point.row * size.columns + point.column
