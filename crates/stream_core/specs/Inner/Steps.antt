-- The reading of a text at a place, by the block and what is kept.
use Rattle.std.specs.Prelude.{◌≡◌, ◌≢◌, ℕ, ◌≤◌, ◌^◌, List, length, Some}
use Rattle.shape_dict.specs.declared.entries.Entry.{Entry}
use Rattle.shape_dict.specs.declared.headers.Header.{Header}
use Rattle.shape_dict.specs.Reading.{BeginsWith}
use Rattle.stream_core.specs.declared.faults.StreamFault.TheVariants as stream
use Rattle.stream_core.specs.declared.progress.Progress.{Progress}
use Rattle.stream_core.specs.declared.standing.Standing.{Standing}
use Rattle.stream_core.specs.declared.standing.Standing.TheVariants as standing
use Rattle.stream_core.specs.Progress.{IsProgress}
use Rattle.stream_core.specs.Inner.Blocks.{Held, bytes_of}
use Rattle.stream_core.specs.Inner.Counting.{CountedTo}

-- these entries of the text were given, and what is left follows them
pub record IsAt (held : Held) (header : Header) (progress : Progress) (whole : List ℕ) (entries : List Entry) : Type 0 where
  pub left : List ℕ
  pub known : bytes_of held ≡ Some left
  pub begins : BeginsWith whole header entries left
  pub kept : IsProgress progress entries

-- what always holds of a text that is being read
pub record IsKept (unread : List ℕ) (progress : Progress) (stands : Standing) : Type 0 where
  pub counted : CountedTo progress.given progress.last
  pub ahead : length unread ≤ 2 ^ 16
  pub memory : stands ≢ standing.Failed stream.Memory
