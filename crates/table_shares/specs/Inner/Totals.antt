-- The rows of one number, those of all shares together, and the entries of a dictionary that they give.
use Rattle.std.specs.Prelude.{◌≡◌, ◌≢◌, ℕ, ◌+◌, ◌^◌, ◌<◌, ◌≤◌, ◌==◌, ◌⊎◌, if◌then◌else◌, List, sum_by, Option, Some, None, All, Contains}
use Rattle.std.specs.List.{AllPairs}
use Rattle.shape_dict.specs.declared.entries.Entry.{Entry}
use Rattle.range_core.specs.Entries.{IsShape}
use Rattle.gather_core.specs.declared.rows.Row.{Row}
use Rattle.gather_core.specs.Rows.{earlier, there_of}
use Rattle.table_shares.specs.Rows.{row_of, first_at}
use Rattle.harvest_faults.specs.declared.faults.HarvestFault.{HarvestFault}
use Rattle.harvest_faults.specs.declared.faults.HarvestFault.TheVariants as fault
use Rattle.gather_core.specs.Gathering.{gathered_entry}

-- ---- one number
-- how often its pattern was there, all its rows together
abbrev pub there_at : List Row → ℕ → ℕ
there_at rows number = sum_by (λ row. if row.number == number then row.there else 0) rows

-- how often it was played
abbrev pub played_at : List Row → ℕ → ℕ
played_at rows number = sum_by (λ row. if row.number == number then row.played else 0) rows

-- an entry, if it is given, with what a row of its pattern counts besides
abbrev pub with_row : Option Entry → Row → Entry
with_row None row = record { shape = row.shape; there = row.there; played = row.played; first = row.first }
with_row (Some total) row = record total { there = total.there + row.there; played = total.played + row.played; first = earlier total.first row.first }

-- a number has rows, all of the pattern of an entry, which has their sums
pub record IsTotal (rows : List Row) (number : ℕ) (total : Entry) : Type 0 where
  pub one : Row
  pub among : Contains rows one
  pub numbered : one.number ≡ number
  pub alike : (row : Row) → Contains rows row → row.number ≡ number → row.shape ≡ total.shape
  pub there : total.there ≡ there_at rows number
  pub played : total.played ≡ played_at rows number
  pub first : total.first ≡ first_at rows number

-- what all rows of a number are together: none where it has no row
abbrev pub IsTotalAt : List Row → ℕ → Option Entry → Type 0
IsTotalAt rows number None = row_of rows number ≡ None
IsTotalAt rows number (Some total) = IsTotal rows number total

-- ---- rows that have no totals
-- a row is of another pattern than a total, or a sum of both is 2 ^ 64 or more
abbrev pub IsUnlike : Entry → Row → Type 0
IsUnlike total row = (total.shape ≢ row.shape) ⊎ ((2 ^ 64 ≤ total.there + row.there) ⊎ (2 ^ 64 ≤ total.played + row.played))

-- one of the sums of a number is 2 ^ 64 or more
abbrev pub IsLargeAt : List Row → ℕ → Type 0
IsLargeAt rows number = (2 ^ 64 ≤ there_at rows number) ⊎ (2 ^ 64 ≤ played_at rows number)

-- the rows of each number are of one pattern
abbrev pub AreAlike : List Row → Type 0
AreAlike rows = (one other : Row) → Contains rows one → Contains rows other → one.number ≡ other.number → one.shape ≡ other.shape

-- why the rows of a number have no sums: they are of several patterns, or a sum is too large
abbrev pub IsSumFault : List Row → ℕ → HarvestFault → Type 0
IsSumFault rows number fault.Overflow = AreAlike rows → IsLargeAt rows number
IsSumFault rows number found = ⊥

-- ---- the numbers of a table
-- an entry is what the rows of a number below this one are together, and its pattern was there
pub record IsListed (rows : List Row) (high : ℕ) (entry : Entry) : Type 0 where
  pub number : ℕ
  pub low : number < high
  pub total : IsTotal rows number entry
  pub some : 0 < entry.there

-- the entries are what rows are together at the numbers below this one whose patterns were there
pub record AreListed (rows : List Row) (high : ℕ) (entries : List Entry) : Type 0 where
  pub each : All (IsListed rows high) entries
  pub shapes : All IsShape entries
  pub every : (number : ℕ) → number < high → 0 < there_at rows number → (entry : Entry) × Contains entries entry × IsTotal rows number entry
  pub apart : AllPairs (λ one other. one.shape ≢ other.shape) entries

-- why there is no list of them: memory was refused, or a sum is too large
abbrev pub IsListFault : List Row → HarvestFault → Type 0
IsListFault rows fault.Memory = Unit {0}
IsListFault rows fault.Overflow = (number : ℕ) × IsLargeAt rows number
IsListFault rows found = ⊥

-- ---- entries of a dictionary
-- the entries are what rows count, one for each pattern that was there
pub record AreEntriesOf (rows : List Row) (entries : List Entry) : Type 0 where
  pub each : All (λ entry. gathered_entry rows entry.shape ≡ Some entry) entries
  pub shapes : All IsShape entries
  pub every : (shape : ℕ) → 0 < there_of rows shape → (entry : Entry) × Contains entries entry × (entry.shape ≡ shape)
  pub apart : AllPairs (λ one other. one.shape ≢ other.shape) entries
