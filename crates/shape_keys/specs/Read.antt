-- What is answered where a text of a dictionary was read.
use Rattle.std.specs.Prelude.{◌≡◌, ℕ, ◌<◌, ◌≤◌, ◌⊎◌, ◌++◌, List, length, map, drop, Result, Ok, Err}
use Rattle.sgf_core.specs.Limit.{most_bytes}
use Rattle.shape_dict.specs.Contents.{Contents}
use Rattle.shape_dict.specs.Reading.{IsHeader, IsTextOf, IsTextFault}
use Rattle.shape_dict.specs.Text.{header_text}
use Rattle.shape_dict.specs.declared.headers.Header.{Header}
use Rattle.shape_dict.specs.declared.faults.DictFault.{DictFault}
use Rattle.shape_keys.specs.declared.entries.ShapesEntry.{ShapesEntry}
use Rattle.shape_keys.specs.declared.entries.ShapesHeader.{ShapesHeader}
use Rattle.shape_keys.specs.declared.statuses.Status.TheVariants as status
use Rattle.shape_keys.specs.Status.{number_of, line_of}
use Rattle.shape_keys.specs.Entries.{said, said_header}

-- the bytes begin with a header, of which this is said
pub record IsHeaderSaid (bytes : List ℕ) (new : ShapesHeader) : Type 0 where
  pub header : Header
  pub left : List ℕ
  pub is_header : IsHeader header
  pub same : bytes ≡ header_text header ++ left
  pub is : new ≡ said_header header

-- the dictionary whose text the bytes are, or their first fault
abbrev pub IsAnswerOf : List ℕ → Result Contents DictFault → Type 0
IsAnswerOf bytes (Ok contents) = IsTextOf contents bytes × (length bytes ≤ most_bytes)
IsAnswerOf bytes (Err fault) = IsTextFault bytes fault

-- the entries are written to the front of the room, which keeps its end, where it is enough for them; else it stays as
-- it is. The number is how many entries there are, either way
abbrev pub IsWritten : Contents → ℕ → List ShapesEntry → List ShapesEntry → ℕ → Type 0
IsWritten contents answered old new number =
    (number ≡ length contents.entries)
    × ((answered ≡ number_of status.Done) × (length contents.entries ≤ length old)
    × (new ≡ map said contents.entries ++ drop (length contents.entries) old)
    ⊎ (answered ≡ number_of status.NoRoom) × (length old < length contents.entries) × (new ≡ old))

-- what is said of an answer: of a fault its line, or 0, and the room stays as it is
abbrev pub IsReadAs : Result Contents DictFault → ℕ → List ShapesEntry → List ShapesEntry → ℕ → Type 0
IsReadAs (Ok contents) answered old new number = IsWritten contents answered old new number
IsReadAs (Err fault) answered old new number =
    (answered ≡ number_of (status.BadText fault)) × (new ≡ old) × (number ≡ line_of fault)

-- the bytes were read, and that is what is said
pub record IsRead (bytes : List ℕ) (answered : ℕ) (old new : List ShapesEntry) (number : ℕ) : Type 0 where
  pub answer : Result Contents DictFault
  pub right : IsAnswerOf bytes answer
  pub says : IsReadAs answer answered old new number
