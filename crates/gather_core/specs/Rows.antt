-- Rows: what was counted of patterns. How often a pattern was there and was played, and the least game in which it was there,
-- all its rows together.
use Rattle.std.specs.Prelude.{ℕ, ◌≤◌, ◌==◌, if◌then◌else◌, List, [], ◌∷◌, sum_by, Option, None}
pub use Rattle.range_core.specs.Totals.{earlier}
use Rattle.gather_core.specs.declared.rows.Row.{Row}

-- how often a pattern was there, all its rows together
abbrev pub there_of : List Row → ℕ → ℕ
there_of rows shape = sum_by (λ row. if row.shape == shape then row.there else 0) rows

-- how often it was played
abbrev pub played_of : List Row → ℕ → ℕ
played_of rows shape = sum_by (λ row. if row.shape == shape then row.played else 0) rows

-- no pattern was played more often than it was there
abbrev pub ArePlayedThere : List Row → Type 0
ArePlayedThere rows = (shape : ℕ) → played_of rows shape ≤ there_of rows shape

-- the least game in which a pattern was there, all its rows together
abbrev pub first_of : List Row → ℕ → Option ℕ
first_of [] shape = None
first_of (row ∷ rows) shape = earlier (if row.shape == shape then row.first else None) (first_of rows shape)
