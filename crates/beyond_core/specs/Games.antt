-- The games of an input, by their numbers.
use Rattle.std.specs.Prelude.{ℕ, List}
use Rattle.go_record.specs.Actions.{Actions}
use Rattle.game_core.specs.Games.{IsGameOf}

-- these bytes have a game of this number with this record
pub record IsGame (bytes : List ℕ) (game : ℕ) (actions : Actions) : Type 0 where
  pub at : ℕ
  pub end : ℕ
  pub is_of : IsGameOf bytes game at end actions
