-- Offsets as pairs of numbers, each part three more: those of the program's tables.
use Rattle.std.specs.Prelude.{◌≡◌, ℕ, ◌+◌, ◌-◌, ◌*◌, ◌<◌, ◌≤◌, ℤ, pos, negsuc, nat_lt, Bool, ◌&&◌, List, [], ◌∷◌, map, if◌then◌else◌}
use Rattle.std.specs.List.{flat_map}
use Rattle.go_board.specs.declared.points.Point.{Point}
use Rattle.shape_core.specs.declared.words.Kind.{Kind}
use Rattle.shape_core.specs.declared.words.Kind.TheVariants as kind
use Rattle.shape_core.specs.Offset.{Offset}
use Rattle.shape_core.specs.Word.{count_from}

-- three less
abbrev pub less_three : ℕ → ℤ
less_three n = if nat_lt n 3 then negsuc (2 - n) else pos (n - 3)

-- an offset from its two parts, each three more
abbrev pub offset_of : ℕ × ℕ → Offset
offset_of parts = record { dx = less_three parts.0; dy = less_three parts.1 }

-- a cell of p is at q: q lies at this distance from p
abbrev pub Sees : Point → ℕ × ℕ → Point → Type 0
Sees p away q = (p.column + away.0 ≡ q.column + 3) × (p.row + away.1 ≡ q.row + 3)

-- both parts of an offset are at most this number
abbrev pub is_away_within : ℕ → ℕ × ℕ → Bool
is_away_within reach away =
    (nat_lt 2 (away.0 + reach) && nat_lt away.0 (4 + reach)) && (nat_lt 2 (away.1 + reach) && nat_lt away.1 (4 + reach))

-- the cells of a row, from the left. A row is how many cells it has to each side of the middle, and how many rows down
-- from the middle it lies, three more.
abbrev pub cells_in : ℕ × ℕ → List (ℕ × ℕ)
cells_in row = map (λ k. (3 - row.0 + k, row.1)) (count_from 0 (2 * row.0 + 1))

-- the cells of rows, one after another
abbrev pub cells_of : List (ℕ × ℕ) → List (ℕ × ℕ)
cells_of rows = flat_map cells_in rows

-- the rows of a kind of pattern, from the top
abbrev pub rows_of : Kind → List (ℕ × ℕ)
rows_of kind.Square = (2, 1) ∷ (2, 2) ∷ (2, 3) ∷ (2, 4) ∷ (2, 5) ∷ []
rows_of kind.Diamond = (0, 0) ∷ (1, 1) ∷ (2, 2) ∷ (3, 3) ∷ (2, 4) ∷ (1, 5) ∷ (0, 6) ∷ []

-- a cell of p in this row is at q
abbrev pub SeesInRow : Point → ℕ × ℕ → Point → Type 0
SeesInRow p row q =
    (p.row + row.1 ≡ q.row + 3) × (p.column ≤ q.column + row.0) × (q.column ≤ p.column + row.0)

-- a point of this row, from one column on and before another
abbrev pub IsInRun : ℕ → ℕ → ℕ → Point → Type 0
IsInRun row left end q = (q.row ≡ row) × (left ≤ q.column) × (q.column < end)
