-- The rows of a share, one after another, numbers rising.
use Rattle.std.specs.Prelude.{◌≡◌, ℕ, ◌+◌, ◌<◌, ◌≤◌, nat_le, List, count_by, Option, Some, None, Contains}
use Rattle.std.specs.Iterator.{Count, at_most}
use Rattle.gather_core.specs.declared.rows.Row.{Row}
use Rattle.table_shares.specs.Rows.{row_of}

-- the first row of the least number from this one on, or none
abbrev pub IsLeastFrom : ℕ → List Row → Option Row → Type 0
IsLeastFrom slots rows None = (row : Row) → Contains rows row → row.number < slots
IsLeastFrom slots rows (Some least) = (slots ≤ least.number) × (row_of rows least.number ≡ Some least)
    × ((row : Row) → Contains rows row → slots ≤ row.number → least.number ≤ row.number)

-- rows, and the number from which on they are still to come
pub record RowsFrom : Type 0 where
  pub rows : List Row
  pub from : ℕ

-- the row of the least number from this one on comes next, and then those after its number; where none is left, nothing
-- changes, so that none is left from then on
abbrev pub IsNextRow : RowsFrom → Option Row → RowsFrom → Type 0
IsNextRow old None new = IsLeastFrom old.from old.rows None × (new ≡ old)
IsNextRow old (Some row) new = IsLeastFrom old.from old.rows (Some row) × (new ≡ record old { from = row.number + 1 })

-- how many rows are still to come
abbrev pub rows_left : RowsFrom → Count
rows_left left = at_most (count_by (λ row. nat_le left.from row.number) left.rows)
