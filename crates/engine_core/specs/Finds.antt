-- What `find` prints: the uses of one pattern in the dictionary whose text the input is.
use Rattle.std.specs.Prelude.{◌≡◌, ℕ, ◌≤◌, ◌⊎◌, List, length, Option, Some, None}
use Rattle.shape_dict.specs.declared.entries.Entry.{Entry}
use Rattle.shape_dict.specs.Contents.{Contents, entry_of}
use Rattle.shape_dict.specs.Text.{line_text}
use Rattle.shape_dict.specs.declared.entries.Text.TheVariants as kind
use Rattle.shape_dict.specs.Reading.{IsTextOf, IsTextFault}
use Rattle.shape_dict.specs.declared.faults.DictFault.TheVariants as dict_fault
use Rattle.engine_core.specs.declared.faults.RunFault.{RunFault}
use Rattle.engine_core.specs.declared.faults.RunFault.TheVariants as fault
use Rattle.sgf_core.specs.Limit.{most_bytes}

-- the input, of at most 2 ^ 28 bytes, is a text of a dictionary that says so of a pattern
pub record IsEntryOf (shape : ℕ) (input : List ℕ) (entry : Option Entry) : Type 0 where
  pub contents : Contents
  pub read : IsTextOf contents input
  pub few : length input ≤ most_bytes
  pub found : entry ≡ entry_of shape contents.entries

-- the entry of a pattern that the dictionary does not have
abbrev pub absent_entry : ℕ → Entry
absent_entry shape = record { shape = shape; there = 0; played = 0; first = None }

-- the input's dictionary has the pattern, and the text is its line
pub record IsFoundText (shape : ℕ) (input text : List ℕ) : Type 0 where
  pub entry : Entry
  pub has : IsEntryOf shape input (Some entry)
  pub printed : text ≡ line_text kind.One entry

-- the input's dictionary does not have the pattern, and the text is its word and twice 0
pub record IsAbsentText (shape : ℕ) (input text : List ℕ) : Type 0 where
  pub lacks : IsEntryOf shape input None
  pub printed : text ≡ line_text kind.One (absent_entry shape)

abbrev pub IsFindText : ℕ → List ℕ → List ℕ → Type 0
IsFindText shape input text = IsFoundText shape input text ⊎ IsAbsentText shape input text

-- the input is no text of a dictionary, or too large for one
abbrev pub HasNoDictionary : List ℕ → Type 0
HasNoDictionary input = (contents : Contents) → IsTextOf contents input → length input ≤ most_bytes → ⊥

-- the fault is the first in the input as a text of a dictionary; the run's own lack of memory is that for the input or
-- for what is printed, and comes whatever the input is
abbrev pub IsFindFault : List ℕ → RunFault → Type 0
IsFindFault input (fault.Dict n dict_fault.Memory) = (n ≡ 1) × IsTextFault input dict_fault.Memory
IsFindFault input (fault.Dict n found) = (n ≡ 1) × IsTextFault input found × HasNoDictionary input
IsFindFault input fault.Memory = Unit {0}
IsFindFault input (fault.Sgf found) = ⊥
IsFindFault input (fault.Record found) = ⊥
IsFindFault input (fault.Board found) = ⊥
IsFindFault input (fault.Glyph found) = ⊥
IsFindFault input (fault.Harvest found) = ⊥
IsFindFault input fault.Usage = ⊥
IsFindFault input fault.Read = ⊥
IsFindFault input (fault.Write written) = ⊥
