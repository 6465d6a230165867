-- Entries that count what rows do.
use Rattle.std.specs.Prelude.{◌≡◌, ℕ, ◌+◌, ◌<◌, ◌^◌, List, map}
use Rattle.shape_dict.specs.declared.entries.Entry.{Entry}
use Rattle.range_core.specs.Totals.{total_of}
use Rattle.gather_core.specs.declared.rows.Row.{Row}
use Rattle.gather_core.specs.Rows.{there_of, played_of}
use Rattle.gather_core.specs.WordShares.{unnumbered}

-- the rows are entries without numbers, of which these count the same of each pattern
pub record IsOfRows (rows : List Row) (entries : List Entry) : Type 0 where
  pub met : List Entry
  pub rows_are : map unnumbered met ≡ rows
  pub totals : (shape : ℕ) → total_of shape entries ≡ total_of shape met

-- what rows count of each pattern, together, is below 2 ^ 64
abbrev pub HaveSmallCounts : List Row → Type 0
HaveSmallCounts rows = (shape : ℕ) → there_of rows shape + played_of rows shape < 2 ^ 64
