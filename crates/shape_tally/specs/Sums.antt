-- Whether all inputs were counted, and the exit status of that.
use Rattle.std.specs.Prelude.{◌≡◌, ℕ, ◌==◌, ◌&&◌, if◌then◌else◌}
use Rattle.game_files.specs.declared.flaws.Why.TheVariants as why
use Rattle.shape_tally.specs.declared.reports.Fate.{Fate}
use Rattle.shape_tally.specs.declared.reports.Fate.TheVariants as fate
use Rattle.shape_tally.specs.declared.reports.Sum.{Sum}

-- no input was left out, each has a tree, and each folder a file of games
abbrev pub IsWhole : Sum → Type 0
IsWhole sum = (sum.left_out ≡ 0) × (sum.treeless ≡ 0) × (sum.bare ≡ 0)

-- the input has trees, or there is none: it was not read, or names are passed over
abbrev pub IsGood : Fate → Type 0
IsGood fate.Waiting = Unit {0}
IsGood (fate.Flawed (why.PassedOver names)) = Unit {0}
IsGood (fate.Flawed why.NoGames) = ⊥
IsGood (fate.Flawed why.Missing) = ⊥
IsGood (fate.Flawed why.Denied) = ⊥
IsGood (fate.Flawed why.Circle) = ⊥
IsGood (fate.Flawed why.Unopened) = ⊥
IsGood fate.Unread = ⊥
IsGood (fate.Faulty found) = ⊥
IsGood (fate.Treeless cause) = ⊥
IsGood (fate.Counted report first) = Unit {0}

-- the exit status of a count: 0 where all inputs were counted, and else 1
abbrev pub status_of : Sum → ℕ
status_of sum = if (sum.left_out == 0) && ((sum.treeless == 0) && (sum.bare == 0)) then 0 else 1
