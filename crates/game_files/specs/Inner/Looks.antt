-- What is known of what a name stands for.
use Rattle.std.specs.Prelude.{◌≡◌}
use Rattle.game_files.specs.Flaws.{status_of}
use Rattle.game_files.specs.declared.looks.Seen.{Seen}
use Rattle.game_files.specs.declared.looks.Seen.TheVariants as seen

-- what can't be looked at could not be read
abbrev pub HasStatus : Seen → Type 0
HasStatus (seen.Folder place) = Unit {0}
HasStatus seen.File = Unit {0}
HasStatus seen.Other = Unit {0}
HasStatus (seen.Unseen why) = status_of why ≡ 6
