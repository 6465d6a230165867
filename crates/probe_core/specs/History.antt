-- Histories of a table: lists of calls with their answers, and which of them are runs of the sequential table.
use Rattle.std.specs.Prelude.{◌≡◌, ℕ, ◌+◌, List, [], ◌∷◌, Option, Some, None, slice_index_or, slice_set, ⊤, replicate}
use Rattle.probe_core.specs.declared.calls.Call.{Call}
use Rattle.probe_core.specs.declared.calls.Call.TheVariants as call
use Rattle.probe_core.specs.declared.calls.Answer.{Answer}
use Rattle.probe_core.specs.declared.calls.Answer.TheVariants as answer
use Rattle.probe_core.specs.Sequential.{Table, Step}

-- a call and what it was answered
pub record Answered : Type 0 where
  pub call : Call
  pub answer : Answer

-- the table after a call with this answer: an answer to Enter names the number that is the key's
abbrev pub changed : Table → Call → Answer → Table
changed table (call.Enter key) (answer.Number p) = slice_set table p (Some key)
changed table _ _ = table

-- the table after all calls of a history, from this one on
abbrev pub content_from : Table → List Answered → Table
content_from table [] = table
content_from table (entry ∷ history) = content_from (changed table entry.call entry.answer) history

-- the table of n numbers of which none is taken
abbrev pub empty_table : ℕ → Table
empty_table n = replicate n None

-- the content of a history at a table of n numbers: which key each number has after it
abbrev pub content : ℕ → List Answered → Table
content n history = content_from (empty_table n) history

-- each call of the history is a step of the sequential table from where the one before it left it
abbrev pub IsRunFrom : Table → List Answered → Type 0
IsRunFrom table [] = ⊤
IsRunFrom table (entry ∷ history) =
    Step table entry.call entry.answer (changed table entry.call entry.answer) ×
    IsRunFrom (changed table entry.call entry.answer) history

-- a legal history at a table of n numbers: a run of the sequential table from the empty one
abbrev pub IsLegal : ℕ → List Answered → Type 0
IsLegal n history = IsRunFrom (empty_table n) history

-- the words are those of the table's content: 0 where a number is free, else its key and 1 more
abbrev pub word_of : Option ℕ → ℕ
word_of None = 0
word_of (Some key) = key + 1

-- number p has key x in the content exactly where word p is x + 1
abbrev pub AreWordsOf : List ℕ → Table → Type 0
AreWordsOf words table = (p : ℕ) → slice_index_or words p 0 ≡ word_of (slice_index_or table p None)
