-- The exit status of what is wrong with a name.
use Rattle.std.specs.Prelude.{ℕ}
use Rattle.game_files.specs.declared.flaws.Why.{Why}
use Rattle.game_files.specs.declared.flaws.Why.TheVariants as why

-- names that are passed over are no fault; a folder without games is like an input without a tree; all else could not be read
abbrev pub status_of : Why → ℕ
status_of (why.PassedOver names) = 0
status_of why.NoGames = 1
status_of why.Missing = 6
status_of why.Denied = 6
status_of why.Circle = 6
status_of why.Unopened = 6
