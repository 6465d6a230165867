-- The patterns that a list of words asks for, what can be wrong with it, and the exit status of each fault.
use Rattle.std.specs.Prelude.{◌≡◌, ◌⊎◌, ℕ, ◌<◌, ◌≤◌, List, length, Option, IfSome, Result, MatchResult}
use Rattle.sgf_core.specs.Limit.{most_bytes}
use Rattle.engine_core.specs.Runs.{ReadInput, input_of}
use Rattle.hits_core.specs.declared.lists.WordsFault.{WordsFault}
use Rattle.hits_core.specs.declared.lists.WordsFault.TheVariants as fault
use Rattle.hits_core.specs.Wanted.{is_wanted}
use Rattle.hits_core.specs.WordLists.{AreWordsOf, IsBadLine}

-- a list of at most 2 ^ 28 bytes has these words, and no other is looked for
pub record HasWords (bytes wanted : List ℕ) : Type 0 where
  pub few : length bytes ≤ most_bytes
  pub words : List ℕ
  pub of_lines : AreWordsOf bytes words
  pub same : (word : ℕ) → is_wanted wanted word ≡ is_wanted words word

-- the reader's bytes are such a list
abbrev pub IsWantedOf : Option (List ℕ) → List ℕ → Type 0
IsWantedOf rest wanted = IfSome rest (λ all. HasWords (input_of all) wanted)

-- the line of this number, from 1, is the first without a word in a list of at most 2 ^ 28 bytes
pub record HasBadLine (bytes : List ℕ) (line : ℕ) : Type 0 where
  pub few : length bytes ≤ most_bytes
  pub bad : IsBadLine bytes line

-- the list is too large, or has a line without a word; or the reader failed, or memory was wanting
abbrev pub IsWantedFault : Option (List ℕ) → WordsFault → Type 0
IsWantedFault rest (fault.BadLine line) = IfSome rest (λ all. HasBadLine (input_of all) line)
IsWantedFault rest fault.TooLarge = IfSome rest (λ all. most_bytes < length (input_of all))
IsWantedFault rest fault.Unread = Unit {0}
IsWantedFault rest fault.Memory = Unit {0}

-- the list was read to its end, or to one byte more than it may have, unless the reader failed or memory was wanting
abbrev pub HasReadList : {A : Type 0} → Result A WordsFault → Option (List ℕ) → Option (List ℕ) → Type 0
HasReadList result rest left =
    MatchResult result (λ _. ReadInput rest left)
    (λ found. (found ≡ fault.Unread) ⊎ (found ≡ fault.Memory) ⊎ ReadInput rest left)

-- 2 where the list is refused, 6 where it was not read, and 5 where memory was refused
abbrev pub status_of : WordsFault → ℕ
status_of (fault.BadLine line) = 2
status_of fault.TooLarge = 2
status_of fault.Unread = 6
status_of fault.Memory = 5
