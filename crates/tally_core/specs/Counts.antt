-- What an occasion counts (this project's own): in the position before the move, the canonical pattern of each empty
-- point, with the mover to move, was there; that of the move's point was played besides.
use Rattle.std.specs.Prelude.{ℕ, ◌==◌, List, [], ◌∷◌, map, filter, count_by}
use Rattle.std.specs.List.{flat_map}
use Rattle.go_board.specs.Extent.{Extent}
use Rattle.go_board.specs.Position.{Position}
use Rattle.go_board.specs.declared.points.Point.{Point}
use Rattle.go_board.specs.declared.points.Colour.{Colour}
use Rattle.shape_core.specs.declared.words.Kind.{Kind}
use Rattle.shape_core.specs.declared.words.Kind.TheVariants as kind
use Rattle.shape_core.specs.declared.words.Kinds.{Kinds}
use Rattle.shape_core.specs.declared.words.Kinds.TheVariants as kinds
use Rattle.shape_core.specs.Word.{count_from}
use Rattle.shape_core.specs.Symmetry.{canonical_of}
use Rattle.shape_core.specs.Around.{word_around}
use Rattle.tally_core.specs.Occasions.{Occasion, is_empty}

-- the kinds that are counted, in order
abbrev pub kinds_of : Kinds → List Kind
kinds_of kinds.Squares = kind.Square ∷ []
kinds_of kinds.Both = kind.Square ∷ kind.Diamond ∷ []

-- the points of a row, from the left
abbrev pub row_of : Extent → ℕ → List Point
row_of size row = map (λ column. record { column = column; row = row }) (count_from 0 size.columns)

-- the points of a board, row by row from the top, each row from the left
abbrev pub points_of : Extent → List Point
points_of size = flat_map (row_of size) (count_from 0 size.rows)

-- the canonical patterns of a point, with a colour to move
abbrev pub patterns_at : List Kind → Extent → Position → Colour → Point → List ℕ
patterns_at kinds size position mover point =
    map (λ kind. canonical_of (word_around kind size position point) mover) kinds

-- the patterns that were there at an occasion
abbrev pub patterns_there : List Kind → Extent → Occasion → List ℕ
patterns_there kinds size occasion =
    flat_map (patterns_at kinds size occasion.position occasion.mover)
    (filter (λ point. is_empty (occasion.position point)) (points_of size))

-- those that were played
abbrev pub patterns_played : List Kind → Extent → Occasion → List ℕ
patterns_played kinds size occasion = patterns_at kinds size occasion.position occasion.mover occasion.at

-- a game that was replayed: its board's size, and its occasions
pub record Replayed : Type 0 where
  pub size : Extent
  pub occasions : List Occasion

-- how often a pattern was there in a game
abbrev pub there_in : List Kind → Replayed → ℕ → ℕ
there_in kinds game shape = count_by (λ c. c == shape) (flat_map (patterns_there kinds game.size) game.occasions)

-- how often it was played
abbrev pub played_in : List Kind → Replayed → ℕ → ℕ
played_in kinds game shape = count_by (λ c. c == shape) (flat_map (patterns_played kinds game.size) game.occasions)
