-- Definitions that private contracts alone use, beside those of `Gathering`.
use Rattle.std.specs.Prelude.{◌≡◌, ◌↔◌, List, Contains}
use Rattle.gather_core.specs.declared.rows.Row.{Row}

-- two rows are of one number exactly where they are of one pattern
abbrev pub AreOneEach : List Row → Type 0
AreOneEach rows = (one other : Row) → Contains rows one → Contains rows other
    → (one.number ≡ other.number) ↔ (one.shape ≡ other.shape)
