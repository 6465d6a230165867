-- Definitions that private contracts alone use, beside those of `Rows`.
use Rattle.std.specs.Prelude.{◌≡◌, ℕ, ◌^◌, ◌<◌, List, length, Some, IfSome}
use Rattle.std.specs.Ordering.{nat_cmp}
use Rattle.std.specs.BTreeMap.{BTreeMap, get}
use Rattle.gather_core.specs.declared.rows.Row.{Row}
use Rattle.table_shares.specs.Rows.{row_at}

-- a map has the place of each row at the row's number, and nothing else, so no number has two rows; and each is one of a table
pub record ArePlaces (places : BTreeMap ℕ ℕ) (rows : List Row) : Type 0 where
  pub each : (place : ℕ) → place < length rows → get nat_cmp places (row_at rows place).number ≡ Some place
  pub found : (number : ℕ) → IfSome (get nat_cmp places number) (λ place. (place < length rows) × ((row_at rows place).number ≡ number))
  pub small : (place : ℕ) → place < length rows → (row_at rows place).number < 2 ^ 22

-- a number has no row
abbrev pub HasNoRow : List Row → ℕ → Type 0
HasNoRow rows number = (place : ℕ) → place < length rows → (row_at rows place).number ≡ number → ⊥
