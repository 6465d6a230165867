-- Rows of several shares against what the table has at their numbers.
use Rattle.std.specs.Prelude.{◌≡◌, ℕ, ◌<◌, ◌==◌, ◌&&◌, not, Bool, false, List, find, Option, Some, None, slice_index_or, Contains}
use Rattle.std.specs.Option.{option_map}
use Rattle.probe_core.specs.Sequential.{IsNumber}
use Rattle.slot_table.specs.declared.entries.Happened.{Happened}
use Rattle.slot_table.specs.History.{content_of}
use Rattle.gather_core.specs.declared.rows.Row.{Row}

-- the pattern that a history gives to a number, or none
abbrev pub shape_at : ℕ → List Happened → ℕ → Option ℕ
shape_at n seen number = slice_index_or (content_of n seen) number None

-- each row of a number below this one is of the number's pattern in the table
abbrev pub StandBelow : ℕ → List Happened → List Row → ℕ → Type 0
StandBelow n seen rows high = (row : Row) → Contains rows row → row.number < high
    → IsNumber (content_of n seen) row.shape row.number

-- each row is of the pattern that the table has at its number
abbrev pub Stand : ℕ → List Happened → List Row → Type 0
Stand n seen rows = (row : Row) → Contains rows row → IsNumber (content_of n seen) row.shape row.number

-- this is the pattern, if one is given
abbrev pub is_shape : Option ℕ → ℕ → Bool
is_shape None shape = false
is_shape (Some one) shape = one == shape

-- a row of this number is of another pattern than this one
abbrev pub is_stranger : ℕ → Option ℕ → Row → Bool
is_stranger number found row = (row.number == number) && not (is_shape found row.shape)

-- the pattern of the first row of this number that is of another pattern than this one, or none
abbrev pub stranger_in : List Row → ℕ → Option ℕ → Option ℕ
stranger_in rows number found = option_map (λ row. row.shape) (find (is_stranger number found) rows)

-- some row of this number is of another pattern than the number has in the table, and none of a lesser number is
pub record IsStranger (n : ℕ) (seen : List Happened) (rows : List Row) (number : ℕ) (of_share of_table : Option ℕ) : Type 0 where
  pub first : of_share ≡ stranger_in rows number of_table
  pub some : (word : ℕ) × (of_share ≡ Some word)
  pub table : of_table ≡ shape_at n seen number
  pub least : StandBelow n seen rows number
