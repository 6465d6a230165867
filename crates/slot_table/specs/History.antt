-- Histories of a shared table: lists of calls with their answers, and which of them are legal. This project's own.
use Rattle.std.specs.Prelude.{◌≡◌, ℕ, ◌-◌, ◌^◌, ◌<◌, ◌≤◌, ◌==◌, if◌then◌else◌, min, List, [], ◌∷◌, ◌++◌, Option, Some, None, ⊤, filter_map}
use Rattle.probe_core.specs.declared.calls.Call.{Call}
use Rattle.probe_core.specs.declared.calls.Call.TheVariants as call
use Rattle.probe_core.specs.declared.calls.Answer.{Answer}
use Rattle.probe_core.specs.declared.calls.Answer.TheVariants as answer
use Rattle.probe_core.specs.Machine.{key_of}
use Rattle.probe_core.specs.Sequential.{Table, IsNumber, IsFree, IsAbsent, HasFree, IsFull}
use Rattle.probe_core.specs.History.{Answered, content}
use Rattle.probe_core.specs.History as keyed
use Rattle.slot_table.specs.declared.entries.Happened.{Happened}
use Rattle.slot_table.specs.declared.entries.Happened.TheVariants as entry

-- the calls on keys, in their order
abbrev pub asked_of : List Happened → List Answered
asked_of [] = []
asked_of (entry.Asked asked found ∷ history) = record { call = asked; answer = found } ∷ asked_of history
asked_of (entry.Marked number game ∷ history) = asked_of history
asked_of (entry.First number least ∷ history) = asked_of history

-- which key each of n numbers has after a history
abbrev pub content_of : ℕ → List Happened → Table
content_of n history = content n (asked_of history)

-- the keys that have a number, in the order of their numbers
abbrev pub keys_of : Table → List ℕ
keys_of table = filter_map (λ key. key) table

-- the lesser of a least game, or none, and one more game
abbrev pub lowered : Option ℕ → ℕ → Option ℕ
lowered None game = Some game
lowered (Some least) game = Some (min least game)

-- the least game marked at a number after a history, where this was the least before it
abbrev pub least_from : Option ℕ → ℕ → List Happened → Option ℕ
least_from least number [] = least
least_from least number (entry.Asked asked found ∷ history) = least_from least number history
least_from least number (entry.Marked at game ∷ history) =
    least_from (if at == number then lowered least game else least) number history
least_from least number (entry.First at found ∷ history) = least_from least number history

-- the least game that a history marks at a number, or none
abbrev pub least_at : ℕ → List Happened → Option ℕ
least_at number history = least_from None number history

-- an entry that answers the least game of a number answers that of the history before it
abbrev pub IsFirstAfter : List Happened → Happened → Type 0
IsFirstAfter before (entry.Asked asked found) = ⊤
IsFirstAfter before (entry.Marked number game) = ⊤
IsFirstAfter before (entry.First number found) = found ≡ least_at number before

-- each entry of a history does, after this one
abbrev pub AreFirstsAfter : List Happened → List Happened → Type 0
AreFirstsAfter before [] = ⊤
AreFirstsAfter before (e ∷ history) = IsFirstAfter before e × AreFirstsAfter (before ++ e ∷ []) history

-- an entry speaks of a table of n numbers: a key is below 2^51, a number below n, a game that is marked below 2^64 - 1
abbrev pub IsWithin : ℕ → Happened → Type 0
IsWithin n (entry.Asked asked found) = key_of asked < 2 ^ 51
IsWithin n (entry.Marked number game) = (number < n) × (game < 2 ^ 64 - 1)
IsWithin n (entry.First number found) = number < n

-- each entry of a history does
abbrev pub AreWithin : ℕ → List Happened → Type 0
AreWithin n [] = ⊤
AreWithin n (e ∷ history) = IsWithin n e × AreWithin n history

-- a legal history of a table of n numbers: its calls on keys are a run of the sequential table from the empty one,
-- each least game that it answers is the least that it marked before, and its keys, numbers and games are the table's
pub record IsLegal (n : ℕ) (history : List Happened) : Type 0 where
  pub run : keyed.IsLegal n (asked_of history)
  pub firsts : AreFirstsAfter [] history
  pub within : AreWithin n history

-- the history begins with this one
abbrev pub Begins : List Happened → List Happened → Type 0
Begins seen history = (rest : List Happened) × (history ≡ seen ++ rest)

-- what the answer to a call tells of a table of n numbers after this history, which ends with the call: a number is below
-- n and the key's; Enter is never answered Absent
abbrev pub Tells : ℕ → List Happened → Call → Answer → Type 0
Tells n history (call.Enter key) (answer.Number p) = (p < n) × IsNumber (content_of n history) key p
Tells n history (call.Enter key) answer.Absent = ⊥
Tells n history (call.Enter key) answer.Full = IsAbsent (content_of n history) key × IsFull (content_of n history)
Tells n history (call.LookUp key) (answer.Number p) = (p < n) × IsNumber (content_of n history) key p
Tells n history (call.LookUp key) answer.Absent = IsAbsent (content_of n history) key × HasFree (content_of n history)
Tells n history (call.LookUp key) answer.Full = IsAbsent (content_of n history) key × IsFull (content_of n history)

-- what the key found at a number, or none, tells of a table of n numbers after this history
abbrev pub TellsAt : ℕ → List Happened → ℕ → Option ℕ → Type 0
TellsAt n history p None = IsFree (content_of n history) p
TellsAt n history p (Some key) = IsNumber (content_of n history) key p

-- some game is the least, and it is not above this one
abbrev pub IsAtMost : Option ℕ → ℕ → Type 0
IsAtMost None game = ⊥
IsAtMost (Some least) game = least ≤ game

-- what stays of a history in one that begins with it: the number of each key, and what the least games are not above
pub record Keeps (n : ℕ) (seen history : List Happened) : Type 0 where
  pub numbers : (key p : ℕ) → IsNumber (content_of n seen) key p → IsNumber (content_of n history) key p
  pub marks : (p game : ℕ) → IsAtMost (least_at p seen) game → IsAtMost (least_at p history) game
