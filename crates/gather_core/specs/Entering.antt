-- Which calls a pass made at a table: what it entered, with what answer, and which games it marked at which numbers.
use Rattle.std.specs.Prelude.{◌≡◌, ℕ, List, Option, Some}
use Rattle.std.specs.List.{AllByRecursion}
use Rattle.probe_core.specs.declared.calls.Answer.{Answer}
use Rattle.probe_core.specs.declared.calls.Call.TheVariants as asked
use Rattle.slot_table.specs.declared.entries.Happened.{Happened}
use Rattle.slot_table.specs.declared.entries.Happened.TheVariants as call
use Rattle.slot_table.specs.Passes.{Known, IsLater}

-- a call: where it enters a key, it is such a key with such an answer; where it marks a game, it is at such a number, and such
-- a game. To look a key up or to ask for a least game enters and marks nothing
abbrev pub IsCall : (ℕ → Answer → Type 0) → (ℕ → ℕ → Type 0) → Happened → Type 0
IsCall enters marks (call.Asked (asked.Enter key) found) = enters key found
IsCall enters marks (call.Asked (asked.LookUp key) found) = Unit {0}
IsCall enters marks (call.Marked number game) = marks number game
IsCall enters marks (call.First number found) = Unit {0}

-- a pass has seen more since; it entered such keys alone, with such answers, and marked at such numbers such games alone
pub record CallsOnly {O : Type 0} (n : ℕ) (enters : ℕ → Answer → Type 0) (marks : ℕ → ℕ → Type 0) (old new : Known O) : Type 0 where
  pub made : List Happened
  pub later : IsLater n old made new
  pub only : AllByRecursion (IsCall enters marks) made

-- it entered such keys alone, with such answers, and marked nothing
abbrev pub EntersOnly : {O : Type 0} → ℕ → (ℕ → Answer → Type 0) → Known O → Known O → Type 0
EntersOnly n enters old new = CallsOnly n enters (λ _ _. ⊥) old new

-- it marked such games at such numbers alone, and entered nothing
abbrev pub MarksOnly : {O : Type 0} → ℕ → (ℕ → ℕ → Type 0) → Known O → Known O → Type 0
MarksOnly n marks old new = CallsOnly n (λ _ _. ⊥) marks old new

-- this game was marked, at this number
abbrev pub IsMarkAt : ℕ → Option ℕ → ℕ → ℕ → Type 0
IsMarkAt at game number marked = (number ≡ at) × (game ≡ Some marked)
