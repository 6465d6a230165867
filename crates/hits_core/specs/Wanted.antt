-- The patterns that are looked for, and which of them a point has.
use Rattle.std.specs.Prelude.{ℕ, ◌==◌, Bool, List, filter}
use Rattle.std.specs.List.{list_any}
use Rattle.go_board.specs.Extent.{Extent}
use Rattle.go_board.specs.Position.{Position}
use Rattle.go_board.specs.declared.points.Point.{Point}
use Rattle.go_board.specs.declared.points.Colour.{Colour}
use Rattle.shape_core.specs.declared.words.Kinds.TheVariants as kinds
use Rattle.tally_core.specs.Counts.{kinds_of, patterns_at}

-- whether a word is among those that are looked for
abbrev pub is_wanted : List ℕ → ℕ → Bool
is_wanted words word = list_any (λ wanted. wanted == word) words

-- those of the patterns of a point that are looked for, with a colour to move: the square before the diamond
abbrev pub wanted_at : List ℕ → Extent → Position → Colour → Point → List ℕ
wanted_at words size position mover point =
    filter (is_wanted words) (patterns_at (kinds_of kinds.Both) size position mover point)
