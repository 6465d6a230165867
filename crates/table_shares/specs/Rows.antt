-- The rows of a share: for each number of the table that it met, the number's pattern, how often that was there and was
-- played, and the least game in which it was there.
use Rattle.std.specs.Prelude.{◌≡◌, ℕ, ◌<◌, ◌==◌, if◌then◌else◌, List, [], ◌∷◌, length, find, Option, None, slice_index_or, Contains}
use Rattle.range_core.specs.Totals.{earlier}
use Rattle.gather_core.specs.declared.rows.Row.{Row}

-- the least game of all rows of a number
abbrev pub first_at : List Row → ℕ → Option ℕ
first_at [] number = None
first_at (row ∷ rows) number = earlier (if row.number == number then row.first else None) (first_at rows number)

-- a row that counts nothing yet
abbrev pub blank : ℕ → ℕ → Row
blank number shape = record { number = number; shape = shape; there = 0; played = 0; first = None }

-- the row at a place, and past the end a blank one
abbrev pub row_at : List Row → ℕ → Row
row_at rows place = slice_index_or rows place (blank 0 0)

-- each number has one row at most
abbrev pub AreOfNumbers : List Row → Type 0
AreOfNumbers rows = (one other : ℕ) → one < length rows → other < length rows
    → (row_at rows one).number ≡ (row_at rows other).number → one ≡ other

-- the first row of a number, or none
abbrev pub row_of : List Row → ℕ → Option Row
row_of rows number = find (λ row. row.number == number) rows

-- all rows are of numbers below this one
abbrev pub AreBelow : ℕ → List Row → Type 0
AreBelow slots rows = (row : Row) → Contains rows row → row.number < slots
