-- What a worker has counted by words, and how patterns get their numbers.
use Rattle.std.specs.Prelude.{◌≡◌, ℕ, List, Some, Contains, IfSome}
use Rattle.shape_dict.specs.declared.entries.Entry.{Entry}
use Rattle.probe_core.specs.declared.calls.Answer.{Answer}
use Rattle.probe_core.specs.Sequential.{IsNumber, IsAbsent, IsFull}
use Rattle.slot_table.specs.declared.entries.Happened.{Happened}
use Rattle.slot_table.specs.History.{content_of, least_at, IsAtMost}
use Rattle.gather_core.specs.declared.rows.Row.{Row}
use Rattle.harvest_faults.specs.declared.faults.HarvestFault.{HarvestFault}
use Rattle.harvest_faults.specs.declared.faults.HarvestFault.TheVariants as fault

-- what was counted of a pattern, as a row: its pattern has no number yet, and 0 stands there
abbrev pub unnumbered : Entry → Row
unnumbered entry = record { number = 0; shape = entry.shape; there = entry.there; played = entry.played; first = entry.first }

-- the pattern of an entry has a number after a history of a table of n numbers, at which its first game is marked, or an earlier one
pub record IsSettled (n : ℕ) (seen : List Happened) (entry : Entry) : Type 0 where
  pub number : ℕ
  pub stands : IsNumber (content_of n seen) entry.shape number
  pub marked : IfSome entry.first (IsAtMost (least_at number seen))

-- a key that was entered is the pattern of one of these entries
pub record IsKeyIn (entries : List Entry) (key : ℕ) (found : Answer) : Type 0 where
  pub entry : Entry
  pub among : Contains entries entry
  pub key_is : entry.shape ≡ key

-- a game that was marked at a number is the first one of an entry whose pattern has the number after a history
pub record IsFirstOf (n : ℕ) (seen : List Happened) (entries : List Entry) (number game : ℕ) : Type 0 where
  pub entry : Entry
  pub among : Contains entries entry
  pub first : entry.first ≡ Some game
  pub number_is : IsNumber (content_of n seen) entry.shape number

-- why entries got no numbers: no number is free for the pattern of one of them, whose first game this is, if it has one
abbrev pub IsNumberFault : ℕ → List Happened → List Entry → HarvestFault → Type 0
IsNumberFault n seen entries (fault.Full game word) = ((entry : Entry) × Contains entries entry × (entry.shape ≡ word) × IfSome entry.first (λ first. game ≡ first))
    × IsAbsent (content_of n seen) word × IsFull (content_of n seen)
IsNumberFault n seen entries found = ⊥
