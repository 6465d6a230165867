-- The games of an input, their patterns, and shares of them.
use Rattle.std.specs.Prelude.{◌≡◌, ℕ, List, All, Contains}
use Rattle.go_record.specs.Actions.{Actions}
use Rattle.shape_core.specs.declared.words.Kinds.{Kinds}
pub use Rattle.beyond_core.specs.Games.{IsGame}
use Rattle.job_core.specs.Rising.{Rising, past}
use Rattle.gather_core.specs.declared.rows.Row.{Row}
use Rattle.gather_core.specs.Shares.{Held, Added, IsShareOf, IsPatternOf}

-- a pattern of the game of this number
pub record IsPatternOfGame (bytes : List ℕ) (kinds : Kinds) (game shape : ℕ) : Type 0 where
  pub actions : Actions
  pub is_game : IsGame bytes game actions
  pub pattern : IsPatternOf kinds actions shape

-- a pattern of some game of the input
abbrev pub IsPatternIn : List ℕ → Kinds → ℕ → Type 0
IsPatternIn bytes kinds shape = (game : ℕ) × IsPatternOfGame bytes kinds game shape

-- a share is of games of the input
pub record IsOfInput (bytes : List ℕ) (kinds : Kinds) (share : Held) : Type 0 where
  pub kinds_are : share.kinds ≡ kinds
  pub added : List Added
  pub is_of : IsShareOf added share
  pub games : All (λ one. IsGame bytes one.game one.actions) added

-- the same, each game is there once, since their numbers rise, and its rows are of patterns of such games
pub record IsWorked (bytes : List ℕ) (kinds : Kinds) (share : Held) : Type 0 where
  pub kinds_are : share.kinds ≡ kinds
  pub added : List Added
  pub is_of : IsShareOf added share
  pub games : All (λ one. IsGame bytes one.game one.actions) added
  pub rises : Rising 0 share.games (past share.games)
  pub known : (row : Row) → Contains share.rows row → IsPatternIn bytes kinds row.shape
