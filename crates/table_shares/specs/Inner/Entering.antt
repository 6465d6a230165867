-- What private contracts say of answers for keys, and of marks at numbers.
use Rattle.std.specs.Prelude.{◌≡◌, ℕ, ◌<◌, List, length}
use Rattle.probe_core.specs.declared.calls.Answer.{Answer}
use Rattle.probe_core.specs.declared.calls.Answer.TheVariants as answer
use Rattle.slot_table.specs.declared.entries.Happened.{Happened}
use Rattle.slot_table.specs.Batches.{answer_at}
use Rattle.slot_table.specs.History.{least_at, IsAtMost}

-- this game was marked, at one of the numbers that were answered
abbrev pub IsMarkAmong : List Answer → ℕ → ℕ → ℕ → Type 0
IsMarkAmong answers game number marked = (marked ≡ game)
    × ((i : ℕ) × (i < length answers) × (answer_at answers i ≡ answer.Number number))

-- the first answers are numbers
abbrev pub AreNumbers : List Answer → ℕ → Type 0
AreNumbers answers count = (i : ℕ) → i < count → (number : ℕ) × (answer_at answers i ≡ answer.Number number)

-- the first answer that is no number
pub record IsFirstRefusal (answers : List Answer) (place : ℕ) : Type 0 where
  pub within : place < length answers
  pub before : AreNumbers answers place
  pub none : (number : ℕ) → answer_at answers place ≡ answer.Number number → ⊥

-- each of the first numbers that were answered has a game marked that is no later than this one
abbrev pub AreMarked : List Happened → ℕ → List Answer → ℕ → Type 0
AreMarked seen game answers count = (i number : ℕ) → i < count → answer_at answers i ≡ answer.Number number
    → IsAtMost (least_at number seen) game
