-- Rows that are made for numbers.
use Rattle.std.specs.Prelude.{◌≡◌, ℕ, ◌<◌, List, length}
use Rattle.gather_core.specs.declared.rows.Row.{Row}
use Rattle.table_shares.specs.Rows.{row_at}

-- some row is of this number and pattern
pub record HasRow (rows : List Row) (number shape : ℕ) : Type 0 where
  pub place : ℕ
  pub within : place < length rows
  pub number_is : (row_at rows place).number ≡ number
  pub shape_is : (row_at rows place).shape ≡ shape
