-- How far texts were read, and which of them are in a part.
use Rattle.std.specs.Prelude.{◌≡◌, ℕ, ◌<◌, ◌≤◌, ◌⊎◌, Bool, true, false, List, [], ◌∷◌, ◌++◌, length, drop, Result, Ok, Err, if◌then◌else◌}
use Rattle.game_core.specs.declared.reports.Report.{Report}
use Rattle.game_core.specs.declared.faults.GamesFault.{GamesFault}
use Rattle.game_core.specs.declared.faults.GamesFault.TheVariants as games_fault
use Rattle.batch_core.specs.Batch.{joined}
use Rattle.tally_parts.specs.Parts.{IsGood, IsLeftOut, AreGood}
use Rattle.tally_parts.specs.declared.filling.Feed.{Feed}

-- what is said of a text: it is good, or why it is left out; or memory was refused
abbrev pub IsJudgement : List ℕ → Result Report GamesFault → Type 0
IsJudgement text (Ok report) = IsGood text
IsJudgement text (Err games_fault.Memory) = Unit {0}
IsJudgement text (Err (games_fault.Sgf found)) = IsLeftOut text

-- a text that was read: it is in the room where it is good, and else it is left out
abbrev pub IsSorted : List ℕ → Bool → List ℕ → Type 0
IsSorted text true room = IsGood text × (room ≡ text)
IsSorted text false room = IsLeftOut text

-- the good text that waits, if one does
abbrev pub waiting_of : Feed → List (List ℕ)
waiting_of feed = if feed.waits then feed.room.items ∷ [] else []

-- of all texts those before the next one were read, and one that waits is good
pub record IsBegun (all : List (List ℕ)) (feed : Feed) : Type 0 where
  pub within : feed.next ≤ length all
  pub waits : feed.waits ≡ true → IsGood feed.room.items

-- of the texts from one place to another the good ones are in the part, after the one that waited
pub record IsPut (all : List (List ℕ)) (before : Feed) (to : ℕ) (part : List ℕ) : Type 0 where
  pub read : List (List ℕ)
  pub good : List (List ℕ)
  pub are_read : drop before.next all ≡ read ++ drop to all
  pub are_good : AreGood read good
  pub joined_is : part ≡ joined (waiting_of before ++ good)

-- of the texts that waited or were read meanwhile the good ones are in the part, but for one that waits; and only
-- where one waits are texts left
pub record IsFilled (all : List (List ℕ)) (before after : Feed) (part : List ℕ) : Type 0 where
  pub begun : IsBegun all after
  pub read : List (List ℕ)
  pub good : List (List ℕ)
  pub in_part : List (List ℕ)
  pub are_read : drop before.next all ≡ read ++ drop after.next all
  pub are_good : AreGood read good
  pub parted : waiting_of before ++ good ≡ in_part ++ waiting_of after
  pub joined_is : part ≡ joined in_part
  pub ended : after.waits ≡ false → after.next ≡ length all

-- reading goes on: a text more was read, or none is left
abbrev pub GoesOn : Feed → Feed → Type 0
GoesOn before after = (before.next ≤ after.next) × (before.waits ≡ true → (before.next < after.next) ⊎ (after.waits ≡ false))
