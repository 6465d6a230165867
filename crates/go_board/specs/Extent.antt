-- The size of a board: its columns and its rows, each from 1 to 52.
use Rattle.std.specs.Prelude.{ℕ, ◌≤◌}

-- the number of columns, and that of rows
pub record Extent : Type 0 where
  pub columns : ℕ
  pub rows : ℕ

-- each side is from 1 to 52
pub record IsExtent (size : Extent) : Type 0 where
  pub some_columns : 1 ≤ size.columns
  pub few_columns : size.columns ≤ 52
  pub some_rows : 1 ≤ size.rows
  pub few_rows : size.rows ≤ 52
