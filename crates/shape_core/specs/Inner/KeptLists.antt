-- Definitions that private contracts alone use, beside those of `KeptLists`.
use Rattle.std.specs.Prelude.{◌≡◌, ℕ, ◌*◌, ◌⊎◌, List, [], ◌∷◌, All, length, slice_index}
use Rattle.go_board.specs.Extent.{Extent}
use Rattle.go_board.specs.Point.{IsOn, index_of}
use Rattle.go_board.specs.Position.{Position, placed}
use Rattle.go_board.specs.declared.points.Point.{Point}
use Rattle.go_board.specs.declared.points.Stone.TheVariants as stone
use Rattle.shape_core.specs.declared.words.Kind.{Kind}
use Rattle.shape_core.specs.Word.{kind_of}
use Rattle.shape_core.specs.Around.{word_around}
use Rattle.shape_core.specs.Field.{IsMarked}

-- the words are those of the points, row by row from the top, each row from the left
pub record AreWords (kind : Kind) (size : Extent) (position : Position) (words : List ℕ) : Type 0 where
  pub count : length words ≡ size.columns * size.rows
  pub each : (q : Point) → IsOn size q → slice_index words (index_of size q) ≡ word_around kind size position q

-- each word is of this kind
abbrev pub AreOfKind : Kind → List ℕ → Type 0
AreOfKind kind words = All (λ w. kind_of w ≡ kind) words

-- the position with these points emptied
unfoldable pub emptied : Position → List Point → Position
emptied position [] = position
emptied position (p ∷ points) = emptied (placed position p stone.Empty) points

-- each point whose word is another than before is marked
abbrev pub DifferingAreMarked : Extent → List ℕ → List ℕ → List ℕ → Type 0
DifferingAreMarked size before after changed =
    (q : Point) → IsOn size q →
    (slice_index after (index_of size q) ≡ slice_index before (index_of size q)) ⊎ IsMarked changed q
