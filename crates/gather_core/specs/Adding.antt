-- What adding a game to a share does.
use Rattle.std.specs.Prelude.{◌≡◌, ℕ, ◌+◌, ◌≤◌, List, [], ◌∷◌, ◌++◌, length}
use Rattle.go_board.specs.Extent.{IsExtent}
use Rattle.go_record.specs.Actions.{Actions}
use Rattle.tally_core.specs.Occasions.{Occasion, AreOccasions}
use Rattle.tally_core.specs.Counts.{kinds_of, there_in, played_in}
use Rattle.gather_core.specs.Rows.{there_of, played_of, first_of, earlier}
use Rattle.gather_core.specs.Shares.{Held, game_of}

-- a share after a game was added
pub record IsAdded (game : ℕ) (actions : Actions) (old new : Held) : Type 0 where
  pub occasions : List Occasion
  pub replayed : AreOccasions actions occasions
  pub sized : IsExtent actions.size
  pub worker : new.worker ≡ old.worker
  pub kinds : new.kinds ≡ old.kinds
  pub games : new.games ≡ old.games ++ game ∷ []
  pub moves : new.moves ≡ old.moves + length occasions
  pub there : (shape : ℕ) → there_of new.rows shape
      ≡ there_of old.rows shape + there_in (kinds_of old.kinds) (record { size = actions.size; occasions = occasions }) shape
  pub played : (shape : ℕ) → played_of new.rows shape
      ≡ played_of old.rows shape + played_in (kinds_of old.kinds) (record { size = actions.size; occasions = occasions }) shape
  pub among : (shape : ℕ) → played_in (kinds_of old.kinds) (record { size = actions.size; occasions = occasions }) shape
      ≤ there_in (kinds_of old.kinds) (record { size = actions.size; occasions = occasions }) shape
  pub first : (shape : ℕ) → first_of new.rows shape
      ≡ earlier (first_of old.rows shape) (game_of old.kinds (record { game = game; actions = actions; occasions = occasions }) shape)
