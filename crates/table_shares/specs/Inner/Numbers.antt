-- What the rows of one number are together, those of all shares.
use Rattle.std.specs.Prelude.{◌≡◌, ℕ, List, Option}
use Rattle.gather_core.specs.declared.rows.Row.{Row}
use Rattle.table_shares.specs.declared.numbers.NumberSums.{NumberSums}
use Rattle.table_shares.specs.Rows.{first_at}
use Rattle.table_shares.specs.Checking.{stranger_in}

-- the rows of a number have the least of their games, and the first row of another pattern than this one
pub record AreSums (rows : List Row) (number : ℕ) (found : Option ℕ) (sums : NumberSums) : Type 0 where
  pub first : sums.first ≡ first_at rows number
  pub stranger : sums.stranger ≡ stranger_in rows number found
