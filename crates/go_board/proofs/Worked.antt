-- The definitions at worked values: a stone of Black at (1, 1) and one of White at (0, 1) of a board of 3 by 3.
use Rattle.std.proofs.Common.{◌≡◌, ℕ, List, [], ◌∷◌, true, false, refl, inr, arith}
use Rattle.go_board.specs.declared.points.Point.{Point}
use Rattle.go_board.specs.declared.points.Colour.TheVariants as colour
use Rattle.go_board.specs.declared.points.Stone.{Stone}
use Rattle.go_board.specs.declared.points.Stone.TheVariants as stone
use Rattle.go_board.specs.Extent.{Extent}
use Rattle.go_board.specs.Point.{same_point, index_of}
use Rattle.go_board.specs.Position.{Position, placed, position_in, IsAlive}
use Rattle.go_board.specs.Play.{stone_of, other, count_of}

abbrev square : Extent
square = record { columns = 3; rows = 3 }

abbrev point : ℕ → ℕ → Point
point column row = record { column = column; row = row }

abbrev empty : Position
empty _ = stone.Empty

-- `...`, `OX.`, `...`
abbrev two : List Stone
two =
    stone.Empty ∷ stone.Empty ∷ stone.Empty
    ∷ stone.White ∷ stone.Black ∷ stone.Empty
    ∷ stone.Empty ∷ stone.Empty ∷ stone.Empty ∷ []

center_is_the_fifth : index_of square (point 1 1) ≡ 4
center_is_the_fifth = refl

rows_are_of_columns : index_of (record { columns = 52; rows = 3 }) (point 51 2) ≡ 155
rows_are_of_columns = refl

same_is_same : same_point (point 1 2) (point 1 2) ≡ true
same_is_same = refl

turned_is_not_same : same_point (point 1 2) (point 2 1) ≡ false
turned_is_not_same = refl

white_stands_at_the_left : position_in square two (point 0 1) ≡ stone.White
white_stands_at_the_left = refl

black_stands_in_the_center : position_in square two (point 1 1) ≡ stone.Black
black_stands_in_the_center = refl

corner_is_empty : position_in square two (point 2 2) ≡ stone.Empty
corner_is_empty = refl

-- its place would be that of the stone at the left
off_the_board_is_empty : position_in square two (point 3 0) ≡ stone.Empty
off_the_board_is_empty = refl

placed_stands : placed empty (point 1 1) stone.Black (point 1 1) ≡ stone.Black
placed_stands = refl

others_stay : placed (position_in square two) (point 1 1) stone.Empty (point 0 1) ≡ stone.White
others_stay = refl

white_is_against_black : stone_of (other colour.Black) ≡ stone.White
white_is_against_black = refl

one_is_black : count_of (position_in square two) stone.Black (point 0 1 ∷ point 1 1 ∷ point 2 2 ∷ []) ≡ 1
one_is_black = refl

-- White has a liberty at the corner above
white_is_alive : IsAlive square (position_in square two) (point 0 1)
white_is_alive = record {
  member = point 0 1;
  liberty = point 0 0;
  joined = record { path = []; leads = refl };
  neighbours = inr (refl, inr refl);
  on_board = (omega arith, omega arith);
  empty = refl;
}
