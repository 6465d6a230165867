-- What a share holds, and of which games it is: for each pattern its rows have, added up, what these games count of it.
use Rattle.std.specs.Prelude.{◌≡◌, ℕ, ◌<◌, nat_lt, if◌then◌else◌, List, [], ◌∷◌, length, map, sum_by, Option, Some, None}
use Rattle.std.specs.List.{AllByRecursion}
use Rattle.go_board.specs.Extent.{IsExtent}
use Rattle.go_record.specs.Actions.{Actions}
use Rattle.shape_core.specs.declared.words.Kinds.{Kinds}
use Rattle.tally_core.specs.Occasions.{Occasion, AreOccasions}
use Rattle.tally_core.specs.Counts.{Replayed, kinds_of, there_in, played_in}
use Rattle.gather_core.specs.declared.rows.Row.{Row}
use Rattle.gather_core.specs.Rows.{there_of, played_of, first_of, earlier, ArePlayedThere}

-- what a share holds: the worker that counts into it, the kinds of pattern that are counted, its games in the order in
-- which they were added, their moves, and its rows
pub record Held : Type 0 where
  pub worker : ℕ
  pub kinds : Kinds
  pub games : List ℕ
  pub moves : ℕ
  pub rows : List Row

-- a game that was added: its number, its record, and the record's occasions
pub record Added : Type 0 where
  pub game : ℕ
  pub actions : Actions
  pub occasions : List Occasion

-- the game, replayed
abbrev pub replayed_of : Added → Replayed
replayed_of added = record { size = added.actions.size; occasions = added.occasions }

-- the game's number, if a pattern was there in it
abbrev pub game_of : Kinds → Added → ℕ → Option ℕ
game_of kinds added shape = if nat_lt 0 (there_in (kinds_of kinds) (replayed_of added) shape) then Some added.game else None

-- the least of these games in which a pattern was there
abbrev pub first_in : Kinds → List Added → ℕ → Option ℕ
first_in kinds [] shape = None
first_in kinds (one ∷ added) shape = earlier (game_of kinds one shape) (first_in kinds added shape)

-- a share is of these games, on boards of sides from 1 to 52: they are its games, and their counts are its rows' sums
pub record IsShareOf (added : List Added) (held : Held) : Type 0 where
  pub replays : AllByRecursion (λ one. AreOccasions one.actions one.occasions) added
  pub sized : AllByRecursion (λ one. IsExtent one.actions.size) added
  pub games : held.games ≡ map (λ one. one.game) added
  pub moves : held.moves ≡ sum_by (λ one. length one.occasions) added
  pub there : (shape : ℕ) → there_of held.rows shape ≡ sum_by (λ one. there_in (kinds_of held.kinds) (replayed_of one) shape) added
  pub played : (shape : ℕ) → played_of held.rows shape ≡ sum_by (λ one. played_in (kinds_of held.kinds) (replayed_of one) shape) added
  pub first : (shape : ℕ) → first_of held.rows shape ≡ first_in held.kinds added shape
  pub among : ArePlayedThere held.rows

-- what holds of every share: it is of some games
pub record IsShare (held : Held) : Type 0 where
  pub added : List Added
  pub is_of : IsShareOf added held

-- a pattern was there in a game with this record
pub record IsPatternOf (kinds : Kinds) (actions : Actions) (shape : ℕ) : Type 0 where
  pub occasions : List Occasion
  pub replayed : AreOccasions actions occasions
  pub was_there : 0 < there_in (kinds_of kinds) (record { size = actions.size; occasions = occasions }) shape
