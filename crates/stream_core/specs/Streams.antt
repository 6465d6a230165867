-- A text that is read line by line: what was given of it, and what is left.
use Rattle.std.specs.Prelude.{◌≡◌, ◌⊎◌, ℕ, List, [], ◌∷◌, ◌++◌, Option, None, Some, Result, Ok, Err}
use Rattle.std.specs.Io.KnownBytes.{prepend_known}
use Rattle.shape_dict.specs.declared.entries.Entry.{Entry}
use Rattle.shape_dict.specs.declared.headers.Header.{Header}
use Rattle.shape_dict.specs.Contents.{Contents}
use Rattle.shape_dict.specs.Reading.{BeginsWith, IsTextOf, counts_of}
use Rattle.stream_core.specs.declared.faults.StreamFault.{StreamFault}
use Rattle.stream_core.specs.declared.faults.StreamFault.TheVariants as stream
use Rattle.stream_core.specs.declared.progress.Progress.{Progress}
use Rattle.stream_core.specs.declared.standing.Standing.{Standing}
use Rattle.stream_core.specs.declared.standing.Standing.TheVariants as standing
use Rattle.stream_core.specs.Faults.{IsStreamFault}
use Rattle.stream_core.specs.Progress.{IsProgress}

-- a text that is being read: the bytes that were read ahead, those that the reader still has where they are known, the
-- header, what is kept of the entries given, and how the reading stands
pub record Stream : Type 0 where
  pub unread : List ℕ
  pub remaining : Option (List ℕ)
  pub header : Header
  pub progress : Progress
  pub standing : Standing

-- the bytes that follow what was given, where they are known
abbrev pub left_of : Stream → Option (List ℕ)
left_of stream = prepend_known stream.unread stream.remaining

-- the dictionary of a header and of all its entries
abbrev pub contents_of : Header → List Entry → Contents
contents_of header entries = record {
  games = header.games;
  moves = header.moves;
  entries = entries;
  counts_diamonds = counts_of header;
}

-- what is known of the whole text by how its reading stands
abbrev pub Stands : List ℕ → Header → List Entry → Standing → Type 0
Stands whole header entries standing.More = Unit {0}
Stands whole header entries standing.Ended = IsTextOf (contents_of header entries) whole
Stands whole header entries (standing.Failed found) = IsStreamFault whole found

-- these entries were given of the text `whole`, without a fault so far, and what is left follows them
pub record HasGiven (stream : Stream) (whole : List ℕ) (entries : List Entry) : Type 0 where
  pub left : List ℕ
  pub known : left_of stream ≡ Some left
  pub begins : BeginsWith whole stream.header entries left
  pub kept : IsProgress stream.progress entries
  pub stands : Stands whole stream.header entries stream.standing

-- how the reading stands after an answer
abbrev pub standing_of : Result (Option Entry) StreamFault → Standing
standing_of (Ok (Some entry)) = standing.More
standing_of (Ok None) = standing.Ended
standing_of (Err found) = standing.Failed found

-- the entries that were given after an answer
abbrev pub given_after : List Entry → Result (Option Entry) StreamFault → List Entry
given_after entries (Ok (Some entry)) = entries ++ entry ∷ []
given_after entries (Ok None) = entries
given_after entries (Err found) = entries

-- the header is that of a text of this dictionary
pub record IsHeaderOf (header : Header) (contents : Contents) : Type 0 where
  pub games : header.games ≡ contents.games
  pub moves : header.moves ≡ contents.moves
  pub kinds : counts_of header ≡ contents.counts_diamonds

-- the answer after these entries of this dictionary: its next entry, or none after the last, or a read failed
abbrev pub IsNext : Contents → List Entry → Result (Option Entry) StreamFault → Type 0
IsNext contents entries (Ok (Some entry)) = (more : List Entry) × (contents.entries ≡ entries ++ entry ∷ more)
IsNext contents entries (Ok None) = contents.entries ≡ entries
IsNext contents entries (Err found) = found ≡ stream.Read

-- the text of a known dictionary was opened, or a read failed, or memory was refused
abbrev pub IsOpenOf : Contents → Result Stream StreamFault → Type 0
IsOpenOf contents (Ok opened) = IsHeaderOf opened.header contents
IsOpenOf contents (Err found) = (found ≡ stream.Read) ⊎ (found ≡ stream.Memory)
