-- What stands round a point of a board, whose points' codes are listed row by row (this project's own). Columns and rows
-- of cells are counted from two before the board's first ones, so that each cell of the square round a point has both.
use Rattle.std.specs.Prelude.{◌≡◌, ℕ, ◌+◌, ◌-◌, ◌*◌, ◌/◌, ◌%◌, ◌<◌, ◌≤◌, List, length, get_or}

-- the board has a point at this column and row, which are counted from 0
abbrev pub IsPoint : List ℕ → ℕ → ℕ → ℕ → Type 0
IsPoint board columns column row = (column < columns) × (row * columns + column < length board)

-- the cell at this column and row is a point
abbrev pub IsOn : List ℕ → ℕ → ℕ → ℕ → Type 0
IsOn board columns x y = (2 ≤ x) × (2 ≤ y) × IsPoint board columns (x - 2) (y - 2)

-- this is the code of the cell: that of the point, or 3 off the board
abbrev pub IsCodeAt : List ℕ → ℕ → ℕ → ℕ → ℕ → Type 0
IsCodeAt board columns x y code =
    (IsOn board columns x y → code ≡ get_or board ((y - 2) * columns + (x - 2)) 0)
    × ((IsOn board columns x y → ⊥) → code ≡ 3)

-- these are the codes of the square round the point at this column and row, which are counted from 0
abbrev pub AreAround : List ℕ → ℕ → ℕ → ℕ → List ℕ → Type 0
AreAround board columns column row codes =
    (length codes ≡ 25)
    × ((k : ℕ) → k < 25 → IsCodeAt board columns (column + k % 5) (row + k / 5) (get_or codes k 0))
