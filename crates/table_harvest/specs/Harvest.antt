-- What several workers count of an input over one table of numbers, and why they may not.
use Rattle.std.specs.Prelude.{◌≡◌, ◌≢◌, ℕ, ◌<◌, ◌≤◌, ◌⊎◌, List, length, Some, None, All, AllPairs, Contains}
use Rattle.probe_core.specs.Sequential.{IsNumber, IsFull}
use Rattle.probe_core.specs.declared.calls.Call.TheVariants as asked
use Rattle.probe_core.specs.declared.calls.Answer.TheVariants as answer
use Rattle.slot_table.specs.declared.entries.Happened.{Happened}
use Rattle.slot_table.specs.declared.entries.Happened.TheVariants as call
use Rattle.slot_table.specs.History.{content_of, Begins, Keeps}
use Rattle.slot_table.specs.Passes.{Known, calls_of}
use Rattle.shape_core.specs.declared.words.Kinds.{Kinds}
use Rattle.shape_dict.specs.declared.entries.Entry.{Entry}
use Rattle.tally_core.specs.Counted.{IsCounted, IsCountFault}
use Rattle.tally_core.specs.declared.collections.Counted.{Counted}
use Rattle.tally_core.specs.declared.faults.TallyFault.TheVariants as tally
use Rattle.harvest_faults.specs.declared.faults.HarvestFault.{HarvestFault}
use Rattle.harvest_faults.specs.declared.faults.HarvestFault.TheVariants as fault
use Rattle.harvest_core.specs.Harvest.{IsRead}
use Rattle.harvest_core.specs.Working.{IsPatternIn, IsPatternOfGame}
use Rattle.table_harvest.specs.Working.{IsCallIn}

-- each pattern of a dictionary has a number after a history of a table of n numbers
abbrev pub AreNumbered : ℕ → List Happened → List Entry → Type 0
AreNumbered n seen entries = (entry : Entry) → Contains entries entry → (number : ℕ) × IsNumber (content_of n seen) entry.shape number

-- the input's games were counted, as one thread counts them; and each of their patterns has a number in the table, which
-- has n at most
pub record IsHarvest (n : ℕ) (seen : List Happened) (kinds : Kinds) (bytes : List ℕ) (counted : Counted) : Type 0 where
  pub counted_is : IsCounted kinds bytes counted
  pub numbered : AreNumbered n seen counted.dictionary.entries
  pub few : length counted.dictionary.entries ≤ n

-- the input can be read, and has more patterns than the table has numbers: n different ones, and this one of this game, which
-- is none of them
pub record HasMorePatterns (n : ℕ) (bytes : List ℕ) (kinds : Kinds) (game word : ℕ) : Type 0 where
  pub read : IsRead bytes
  pub of_game : IsPatternOfGame bytes kinds game word
  pub keys : List ℕ
  pub as_many : length keys ≡ n
  pub different : AllPairs (λ one other. one ≢ other) keys
  pub known : All (IsPatternIn bytes kinds) keys
  pub another : Contains keys word → ⊥

-- what a pass knows before and after a harvest of an input over a table of n numbers: it goes on from what it had seen; its
-- calls of before are still its own; and each other call of it entered a pattern of the input, marked a game of it at the number
-- of a pattern of that game, or only asked
pub record HasHarvested {O : Type 0} (n : ℕ) (bytes : List ℕ) (kinds : Kinds) (old new : Known O) : Type 0 where
  pub begins : Begins old.seen new.seen
  pub keeps : Keeps n old.seen new.seen
  pub kept : (e : Happened) → Contains (calls_of old) e → Contains (calls_of new) e
  pub calls : (e : Happened) → Contains (calls_of new) e → Contains (calls_of old) e ⊎ IsCallIn n new.seen bytes kinds e

-- the table is full, and this is the least number whose key is not known to be a pattern of the input. The harvest did not enter
-- that key: where the pass has a call that gave it the number, that is one of those which it had made before
pub record IsOthersKey {O : Type 0} (n : ℕ) (bytes : List ℕ) (kinds : Kinds) (earlier : List Happened) (after : Known O) (number key : ℕ) : Type 0 where
  pub full : IsFull (content_of n after.seen)
  pub number_is : IsNumber (content_of n after.seen) key number
  pub others : Contains (calls_of after) (call.Asked (asked.Enter key) (answer.Number number))
      → Contains earlier (call.Asked (asked.Enter key) (answer.Number number))
  pub least : (lesser : ℕ) → lesser < number → lesser < n
      → (known : ℕ) × IsNumber (content_of n after.seen) known lesser × IsPatternIn bytes kinds known

-- a game that is marked at a number, and that the harvest did not mark there
pub record IsOthersMark {O : Type 0} (earlier : List Happened) (after : Known O) (number game : ℕ) : Type 0 where
  pub marked : Contains after.seen (call.Marked number game)
  pub others : Contains (calls_of after) (call.Marked number game) → Contains earlier (call.Marked number game)

-- why an input was not counted by a pass that had made these calls before: memory was refused; it is too large or has a fault
-- of syntax; it has more patterns than the table has numbers; or it can be read, and somebody else uses the table: where that is
-- full, a number that no share has a row of has a key, or a game other than the shares' is marked at it, that is not from here
abbrev pub IsHarvestFault : {O : Type 0} → ℕ → List ℕ → Kinds → List Happened → Known O → HarvestFault → Type 0
IsHarvestFault n bytes kinds earlier after fault.Memory = Unit {0}
IsHarvestFault n bytes kinds earlier after (fault.Sgf found) = IsCountFault bytes (tally.Sgf found)
IsHarvestFault n bytes kinds earlier after (fault.Full game word) = HasMorePatterns n bytes kinds game word
IsHarvestFault n bytes kinds earlier after (fault.Stranger number None (Some key)) = IsRead bytes × IsOthersKey n bytes kinds earlier after number key
IsHarvestFault n bytes kinds earlier after (fault.Marks number of_shares (Some game)) =
    IsRead bytes × (of_shares ≢ Some game) × IsOthersMark earlier after number game
IsHarvestFault n bytes kinds earlier after found = ⊥

-- why a harvest over somebody's table gave no dictionary, where nobody else uses that table: memory was refused; or the input is
-- too large or has a fault of syntax; or it has more patterns than the table has numbers
abbrev pub IsRefusedAlone : ℕ → List ℕ → Kinds → HarvestFault → Type 0
IsRefusedAlone n bytes kinds fault.Memory = Unit {0}
IsRefusedAlone n bytes kinds (fault.Sgf found) = IsCountFault bytes (tally.Sgf found)
IsRefusedAlone n bytes kinds (fault.Full game word) = HasMorePatterns n bytes kinds game word
IsRefusedAlone n bytes kinds found = ⊥
