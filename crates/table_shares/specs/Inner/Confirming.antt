-- Definitions that private contracts alone use, beside those of `Confirming`.
use Rattle.std.specs.Prelude.{◌≡◌, ℕ, ◌≤◌, List, Option, Some, None, Contains}
use Rattle.gather_core.specs.declared.rows.Row.{Row}
use Rattle.table_shares.specs.Confirming.{HasShape, HasShapeAt}

-- all rows of this pattern are of this number or a greater one
abbrev pub AreFrom : ℕ → List Row → ℕ → Type 0
AreFrom shape rows low = (row : Row) → Contains rows row → row.shape ≡ shape → low ≤ row.number

-- the least number of a row of this pattern, or none where no row is of it
abbrev pub IsLeastOf : ℕ → List Row → Option ℕ → Type 0
IsLeastOf shape rows None = HasShape rows shape → ⊥
IsLeastOf shape rows (Some least) = HasShapeAt rows least shape × AreFrom shape rows least

-- a key is given, and it is the pattern of some row
abbrev pub IsOfRow : List Row → Option ℕ → Type 0
IsOfRow rows None = ⊥
IsOfRow rows (Some key) = HasShape rows key
