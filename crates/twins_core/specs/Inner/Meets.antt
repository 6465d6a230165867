-- A game more that is met.
use Rattle.std.specs.Prelude.{◌≡◌, ℕ, List, [], ◌∷◌, ◌++◌, Option}
use Rattle.twins_core.specs.Twins.{Met, IsFirst, Kept, Knows, piece}

-- after these games that one was met: what is written of it was appended, and it is known
pub record Meets (kept : List Kept) (before : List Met) (met : Met) (text new : List ℕ) : Type 0 where
  pub found : Option Met
  pub first : IsFirst before met.game found
  pub printed : new ≡ text ++ piece met found
  pub known : Knows kept (before ++ met ∷ [])
