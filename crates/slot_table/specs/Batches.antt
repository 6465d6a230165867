-- Batches: keys that a pass entered together, each by a call of its own.
use Rattle.std.specs.Prelude.{◌≡◌, ℕ, ◌<◌, List, [], ◌∷◌, ◌++◌, length, slice_index, slice_index_or, IsPermutation}
use Rattle.probe_core.specs.declared.calls.Call.TheVariants as call
use Rattle.probe_core.specs.declared.calls.Answer.{Answer}
use Rattle.probe_core.specs.declared.calls.Answer.TheVariants as answer
use Rattle.slot_table.specs.declared.entries.Happened.{Happened}
use Rattle.slot_table.specs.declared.entries.Happened.TheVariants as entry
use Rattle.slot_table.specs.History.{Tells}
use Rattle.slot_table.specs.Passes.{Known, IsLater}

-- the call that enters a key, with this answer; where it is Absent, which no such call answers, the key was not entered
abbrev pub entered_as : ℕ → Answer → List Happened
entered_as key answer.Absent = []
entered_as key found = entry.Asked (call.Enter key) found ∷ []

-- the calls that enter keys, with these answers, in the order of the keys
abbrev pub entered : List ℕ → List Answer → List Happened
entered [] answers = []
entered (key ∷ keys) [] = []
entered (key ∷ keys) (found ∷ answers) = entered_as key found ++ entered keys answers

-- a pass made these calls since, in some order: each of them as often as it is among them, and no others
pub record AreMade {O : Type 0} (n : ℕ) (calls : List Happened) (old new : Known O) : Type 0 where
  pub made : List Happened
  pub later : IsLater n old made new
  pub each : IsPermutation made calls

-- what the answer to a key tells of a table of n numbers after this history, if the key was entered
abbrev pub IsTold : ℕ → List Happened → ℕ → Answer → Type 0
IsTold n seen key answer.Absent = Unit {0}
IsTold n seen key found = Tells n seen (call.Enter key) found

-- the answer at a place
abbrev pub answer_at : List Answer → ℕ → Answer
answer_at answers i = slice_index_or answers i answer.Absent

-- what the answers to keys tell
abbrev pub AreTold : ℕ → List Happened → List ℕ → List Answer → Type 0
AreTold n seen keys answers = (i : ℕ) → i < length keys → IsTold n seen (slice_index keys i) (answer_at answers i)

-- for a key before this place no number was free
abbrev pub IsFullBefore : List Answer → ℕ → Type 0
IsFullBefore answers place = (j : ℕ) × (j < place) × (answer_at answers j ≡ answer.Full)

-- of the keys before this place those alone were not entered that come after one for which no number was free
abbrev pub AreEnteredUntil : List Answer → ℕ → Type 0
AreEnteredUntil answers place = (i : ℕ) → i < place → answer_at answers i ≡ answer.Absent → IsFullBefore answers i
