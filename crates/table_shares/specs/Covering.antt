-- Games over several shares: which are missing or in them twice.
use Rattle.std.specs.Prelude.{◌≡◌, ℕ, ◌<◌, ◌≤◌, List, Option, Some, None}
use Rattle.gather_core.specs.Covering.{times_of}

-- the least game that is in a list twice or more, or none
abbrev pub IsLeastDouble : List ℕ → Option ℕ → Type 0
IsLeastDouble list None = (game : ℕ) → times_of list game ≤ 1
IsLeastDouble list (Some least) = (2 ≤ times_of list least) × ((game : ℕ) → game < least → times_of list game ≤ 1)

-- a game is in the list twice, and no lesser one is
abbrev pub IsTwice : List ℕ → ℕ → Type 0
IsTwice list game = IsLeastDouble list (Some game)

-- no game is in the list twice; this one is missing, and no lesser one is
pub record IsMissing (games : ℕ) (list : List ℕ) (game : ℕ) : Type 0 where
  pub once : (other : ℕ) → times_of list other ≤ 1
  pub within : game < games
  pub none : times_of list game ≡ 0
  pub least : (other : ℕ) → other < game → times_of list other ≡ 1
