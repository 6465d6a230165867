-- What a list of meetings says of a game: by shape its sums are the game's counts, and its shapes come in the order in
-- which patterns are first met: occasion by occasion, points row by row from the top, each row from the left, the square
-- before the diamond.
use Rattle.std.specs.Prelude.{◌≡◌, ℕ, ◌+◌, ◌<◌, ◌≤◌, ◌==◌, not, List, [], ◌∷◌, length, map, filter, sum_by, All, if◌then◌else◌}
use Rattle.std.specs.List.{flat_map}
use Rattle.go_record.specs.Actions.{Actions}
use Rattle.shape_core.specs.declared.words.Kinds.{Kinds}
use Rattle.tally_core.specs.Occasions.{Occasion, AreOccasions}
use Rattle.tally_core.specs.Counts.{kinds_of, patterns_there, there_in, played_in}
use Rattle.tally_core.specs.declared.meetings.Meeting.{Meeting}

-- how often the meetings of a shape say that it was there
abbrev pub there_among : List Meeting → ℕ → ℕ
there_among meetings shape = sum_by (λ m. if m.shape == shape then m.there else 0) meetings

-- and was played
abbrev pub played_among : List Meeting → ℕ → ℕ
played_among meetings shape = sum_by (λ m. if m.shape == shape then m.played else 0) meetings

-- the shapes of meetings, in their order
abbrev pub shapes_of : List Meeting → List ℕ
shapes_of meetings = map (λ m. m.shape) meetings

-- a list with each number at its first place only
abbrev pub once_each : List ℕ → List ℕ
once_each [] = []
once_each (x ∷ xs) = x ∷ filter (λ y. not (y == x)) (once_each xs)

-- these meetings are those of a game with this number of occasions
pub record IsWalk (kinds : Kinds) (game : Actions) (meetings : List Meeting) (moves : ℕ) : Type 0 where
  pub occasions : List Occasion
  pub replayed : AreOccasions game occasions
  pub moves_counted : moves ≡ length occasions
  pub there : (shape : ℕ) → there_among meetings shape ≡ there_in (kinds_of kinds) (record { size = game.size; occasions = occasions }) shape
  pub played : (shape : ℕ) → played_among meetings shape ≡ played_in (kinds_of kinds) (record { size = game.size; occasions = occasions }) shape
  pub met : All (λ m. 0 < there_in (kinds_of kinds) (record { size = game.size; occasions = occasions }) m.shape) meetings
  pub order : once_each (shapes_of meetings) ≡ once_each (flat_map (patterns_there (kinds_of kinds) game.size) occasions)

-- what was played was there
abbrev pub IsAmong : List Meeting → Type 0
IsAmong meetings = (shape : ℕ) → played_among meetings shape ≤ there_among meetings shape

-- no pattern was counted more often
abbrev pub IsSmall : ℕ → List Meeting → Type 0
IsSmall most meetings = (shape : ℕ) → there_among meetings shape + played_among meetings shape ≤ most

-- what the model of a walk is: the kinds that it counts, and what it met in its last game
pub record Walked : Type 0 where
  pub kinds : Kinds
  pub meetings : List Meeting
