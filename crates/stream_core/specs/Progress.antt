-- What is kept of the entries that a stream has given.
use Rattle.std.specs.Prelude.{◌≡◌, ℕ, ◌^◌, List, length, Option, None, Some, nat_lt, if◌then◌else◌}
use Rattle.shape_dict.specs.declared.entries.Entry.{Entry}
use Rattle.shape_dict.specs.Contents.{played_in, squares_of, diamonds_of}
use Rattle.shape_dict.specs.Reading.{last_shape}
use Rattle.stream_core.specs.declared.progress.Progress.{Progress}

-- a number, or None where it is over 2 ^ 64 - 1
abbrev pub small : ℕ → Option ℕ
small number = if nat_lt number (2 ^ 64) then Some number else None

-- what is kept of these entries
pub record IsProgress (progress : Progress) (entries : List Entry) : Type 0 where
  pub given : progress.given ≡ length entries
  pub last : progress.last ≡ last_shape entries
  pub squares : progress.squares ≡ small (played_in (squares_of entries))
  pub diamonds : progress.diamonds ≡ small (played_in (diamonds_of entries))
