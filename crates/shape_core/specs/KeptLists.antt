-- The list that keeps a mark for each point of a board: a number for each row.
use Rattle.std.specs.Prelude.{◌≡◌, ℕ, ◌^◌, ◌<◌, List, length, All}
use Rattle.go_board.specs.Extent.{Extent}

-- a number for each row, with bits for its columns alone
pub record AreMarks (size : Extent) (changed : List ℕ) : Type 0 where
  pub rows : length changed ≡ size.rows
  pub within : All (λ row. row < 2 ^ size.columns) changed
