-- Definitions that private contracts alone use, beside those of `Making`.
use Rattle.std.specs.Prelude.{◌≡◌, ◌≢◌, ℕ, ◌+◌, ◌^◌, ◌<◌, ◌≤◌, ◌++◌, ◌∷◌, [], List, length, Some}
use Rattle.probe_core.specs.declared.calls.Answer.{Answer}
use Rattle.probe_core.specs.declared.calls.Answer.TheVariants as answer
use Rattle.slot_table.specs.Batches.{answer_at}
use Rattle.gather_core.specs.declared.rows.Row.{Row}
use Rattle.tally_core.specs.declared.meetings.Meeting.{Meeting}
use Rattle.harvest_faults.specs.declared.faults.HarvestFault.{HarvestFault}
use Rattle.harvest_faults.specs.declared.faults.HarvestFault.TheVariants as fault
use Rattle.table_shares.specs.Rows.{row_at, blank}
use Rattle.table_shares.specs.Raising.{weight_of}
use Rattle.table_shares.specs.Inner.Raising.{meeting_at}
use Rattle.table_shares.specs.Making.{HasRow}
use Rattle.table_shares.specs.Adding.{IsRowed}

-- a number that was answered is below this one
abbrev pub IsBelow : ℕ → Answer → Type 0
IsBelow slots (answer.Number number) = number < slots
IsBelow slots answer.Absent = Unit {0}
IsBelow slots answer.Full = Unit {0}

-- all are
abbrev pub AreBelow : ℕ → List Answer → Type 0
AreBelow slots answers = (i : ℕ) → i < length answers → IsBelow slots (answer_at answers i)

-- why a row was not put after others: memory was refused, or all counts together are too large
abbrev pub IsAppendFault : Row → List Row → HarvestFault → Type 0
IsAppendFault row rows fault.Memory = Unit {0}
IsAppendFault row rows fault.Overflow = 2 ^ 64 ≤ weight_of rows + (row.there + row.played)
IsAppendFault row rows found = ⊥

-- a row that counts nothing came after others, of a pattern and of the number that was answered for it
abbrev pub IsBlankOf : Answer → ℕ → List Row → List Row → Type 0
IsBlankOf found shape old new = (number : ℕ) × (found ≡ answer.Number number) × (new ≡ old ++ blank number shape ∷ [])

-- why a number that was answered got no row of a pattern: memory was refused, or its row is of another pattern
abbrev pub IsRowFault : Answer → ℕ → List Row → HarvestFault → Type 0
IsRowFault found shape rows fault.Memory = Unit {0}
IsRowFault found shape rows (fault.Stranger at (Some held) (Some other)) =
    (found ≡ answer.Number at) × (other ≡ shape) × (held ≢ shape) × HasRow rows at held
IsRowFault found shape rows one = ⊥

-- rows were made for numbers that were answered, and count nothing yet; the old ones are as they were
pub record Gained (meetings : List Meeting) (answers : List Answer) (old new : List Row) : Type 0 where
  pub fresh : List Row
  pub rows : new ≡ old ++ fresh
  pub each : (k : ℕ) → k < length fresh → (i : ℕ) × (i < length answers)
      × (answer_at answers i ≡ answer.Number (row_at fresh k).number)
      × (row_at fresh k ≡ blank (row_at fresh k).number (meeting_at meetings i).shape)

-- the first meetings have rows of their numbers, where these were answered
abbrev pub HaveRows : List Meeting → List Answer → ℕ → List Row → Type 0
HaveRows meetings answers count rows = (i : ℕ) → i < count → IsRowed rows (meeting_at meetings i).shape (answer_at answers i)

-- why some number got no row
abbrev pub IsMakingFault : List Meeting → List Answer → List Row → HarvestFault → Type 0
IsMakingFault meetings answers rows found =
    (i : ℕ) × (i < length answers) × IsRowFault (answer_at answers i) (meeting_at meetings i).shape rows found
