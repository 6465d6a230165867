-- The tallies of what is in two ranges.
use Rattle.std.specs.Prelude.{◌≡◌, ◌+◌, List, [], ◌∷◌}
use Rattle.merge_core.specs.declared.tallies.Tally.{Tally}

abbrev pub sum_of : Tally → Tally → Tally
sum_of left right = record {
  squares = left.squares + right.squares;
  diamonds = left.diamonds + right.diamonds;
  squares_played = left.squares_played + right.squares_played;
  diamonds_played = left.diamonds_played + right.diamonds_played;
}

abbrev pub IsSum : Tally → Tally → Tally → Type 0
IsSum left right both = both ≡ sum_of left right

-- of each dictionary by itself
abbrev pub sums : List Tally → List Tally → List Tally
sums [] right = []
sums (t ∷ left) [] = []
sums (t ∷ left) (u ∷ right) = sum_of t u ∷ sums left right
