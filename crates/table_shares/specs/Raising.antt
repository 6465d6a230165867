-- What adding a game's meetings to the rows of their patterns does.
use Rattle.std.specs.Prelude.{ℕ, ◌+◌, List, map, sum_by}
use Rattle.gather_core.specs.declared.rows.Row.{Row}
use Rattle.tally_core.specs.declared.meetings.Meeting.{Meeting}

-- a number and its pattern
pub record Numbered : Type 0 where
  pub number : ℕ
  pub shape : ℕ

-- of which numbers and patterns rows are
abbrev pub numbered_of : List Row → List Numbered
numbered_of rows = map (λ row. record { number = row.number; shape = row.shape }) rows

-- all counts of rows together
abbrev pub weight_of : List Row → ℕ
weight_of rows = sum_by (λ row. row.there + row.played) rows

-- all counts of meetings together
abbrev pub weight_among : List Meeting → ℕ
weight_among meetings = sum_by (λ m. m.there + m.played) meetings
