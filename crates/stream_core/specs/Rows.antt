-- The lines of a piece of a text.
use Rattle.std.specs.Prelude.{◌≡◌, ℕ, suc, ◌^◌, ◌<◌, ◌≤◌, List, [], ◌∷◌}
use Rattle.std.specs.List.{AllByRecursion}
use Rattle.shape_core.specs.Symmetry.{least_image}
use Rattle.shape_dict.specs.declared.entries.Entry.{Entry}
use Rattle.shape_dict.specs.declared.headers.Header.{Header}
use Rattle.shape_dict.specs.Text.{IsSmallEntry}
use Rattle.shape_dict.specs.Reading.{IsFirst}

-- what a line after this header may say, but for the place that its kind has
pub record IsRow (header : Header) (entry : Entry) : Type 0 where
  pub word : entry.shape < 2 ^ 51
  pub canonical : least_image entry.shape ≡ entry.shape
  pub there : 1 ≤ entry.there
  pub played : entry.played ≤ entry.there
  pub small : IsSmallEntry entry
  pub first : IsFirst header.text header.games entry.first

-- the words rise, from the first number on, and stay below the other
abbrev pub Rises : ℕ → ℕ → List Entry → Type 0
Rises low high [] = low ≤ high
Rises low high (entry ∷ entries) = (low ≤ entry.shape) × Rises (suc entry.shape) high entries

-- lines that may follow one another after this header, with words from the first number on and below the other
pub record AreRows (header : Header) (low high : ℕ) (entries : List Entry) : Type 0 where
  pub rises : Rises low high entries
  pub each : AllByRecursion (IsRow header) entries
