-- What a worker's share has to do with the table: its rows stand there, and the calls of its pass stand in the rows.
use Rattle.std.specs.Prelude.{◌≡◌, ℕ, List, ◌++◌, Option, Some, None, Contains}
use Rattle.probe_core.specs.declared.calls.Call.TheVariants as asked
use Rattle.probe_core.specs.declared.calls.Answer.TheVariants as answer
use Rattle.slot_table.specs.declared.entries.Happened.{Happened}
use Rattle.slot_table.specs.declared.entries.Happened.TheVariants as call
use Rattle.probe_core.specs.Sequential.{IsAbsent, IsFull}
use Rattle.slot_table.specs.History.{content_of, least_at, IsAtMost}
use Rattle.slot_table.specs.Passes.{Known, IsLater}
use Rattle.gather_core.specs.declared.rows.Row.{Row}
use Rattle.harvest_faults.specs.declared.faults.HarvestFault.{HarvestFault}
use Rattle.harvest_faults.specs.declared.faults.HarvestFault.TheVariants as fault
use Rattle.table_shares.specs.Making.{HasRow}
use Rattle.table_shares.specs.Checking.{Stand}
use Rattle.table_harvest.specs.declared.working.Worked.{Worked}

-- the first game of each row is marked at its number, or an earlier one is
abbrev pub AreFirstsMarked : List Happened → List Row → Type 0
AreFirstsMarked seen rows = (row : Row) → Contains rows row → (game : ℕ) → row.first ≡ Some game → IsAtMost (least_at row.number seen) game

-- some row of this number is of a game that is no later than this one
pub record HasGameBy (rows : List Row) (number game : ℕ) : Type 0 where
  pub row : Row
  pub among : Contains rows row
  pub number_is : row.number ≡ number
  pub by : IsAtMost row.first game

-- a call stands in rows: a pattern that it gave a number has its row of that number, and a game that it marked at a number is
-- no earlier than that of a row of the number. Calls that only ask do so always
abbrev pub StandsIn : List Row → Happened → Type 0
StandsIn rows (call.Asked (asked.Enter key) (answer.Number p)) = HasRow rows p key
StandsIn rows (call.Asked (asked.Enter key) answer.Absent) = Unit {0}
StandsIn rows (call.Asked (asked.Enter key) answer.Full) = Unit {0}
StandsIn rows (call.Asked (asked.LookUp key) found) = Unit {0}
StandsIn rows (call.Marked p game) = HasGameBy rows p game
StandsIn rows (call.First p found) = Unit {0}

-- nothing was refused, or only a number: then all patterns that were entered have their rows
abbrev pub HasItsRows : Option HarvestFault → Type 0
HasItsRows None = Unit {0}
HasItsRows (Some (fault.Full game word)) = Unit {0}
HasItsRows (Some found) = ⊥

-- where no number was left for a pattern of a game, the table is full, and the pattern is not in it
abbrev pub IsFullOf : ℕ → List Happened → Option HarvestFault → Type 0
IsFullOf n seen refused = (game word : ℕ) → refused ≡ Some (fault.Full game word) → IsAbsent (content_of n seen) word × IsFull (content_of n seen)

-- what a worker has counted, after a history of a table of n numbers in which it made these calls: each row stands in the
-- table, its first game is marked, each call stands in the rows, and what was refused a number has none
pub record IsInTable (n : ℕ) (seen calls : List Happened) (worked : Worked) : Type 0 where
  pub stands : Stand n seen worked.share.rows
  pub marked : AreFirstsMarked seen worked.share.rows
  pub calls_stand : HasItsRows worked.refused → (e : Happened) → Contains calls e → StandsIn worked.share.rows e
  pub full : IsFullOf n seen worked.refused

-- a pass has made calls since, and this was counted by them
abbrev pub IsInTableSince : {O : Type 0} → ℕ → Known O → Known O → Worked → Type 0
IsInTableSince n before after worked = (made : List Happened) × IsLater n before made after × IsInTable n after.seen made worked

-- what was counted by some calls before is counted by those and some more afterwards
abbrev pub GoesOnInTable : {O : Type 0} → ℕ → Known O → Known O → Worked → Worked → Type 0
GoesOnInTable n before after old new = (calls : List Happened) → IsInTable n before.seen calls old
    → (made : List Happened) × IsLater n before made after × IsInTable n after.seen (calls ++ made) new
