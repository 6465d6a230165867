-- The cells of the two kinds of pattern, as offsets from the point in the middle: dx columns to the right and dy rows
-- down. Cells are numbered from 0, row by row from the top, each row from the left (this project's own).
use Rattle.std.specs.Prelude.{ℤ, pos, negsuc, List, [], ◌∷◌, ◌++◌, map}
use Rattle.std.specs.List.{flat_map}
use Rattle.shape_core.specs.declared.words.Kind.{Kind}
use Rattle.shape_core.specs.declared.words.Kind.TheVariants as kind

-- a number of columns to the right and of rows down
pub record Offset : Type 0 where
  pub dx : ℤ
  pub dy : ℤ

-- the middle column alone
abbrev pub none : List ℤ
none = pos 0 ∷ []

-- from one to the left to one to the right
abbrev pub to_one : List ℤ
to_one = negsuc 0 ∷ pos 0 ∷ pos 1 ∷ []

-- from two to the left to two to the right
abbrev pub to_two : List ℤ
to_two = negsuc 1 ∷ negsuc 0 ∷ pos 0 ∷ pos 1 ∷ pos 2 ∷ []

-- from three to the left to three to the right
abbrev pub to_three : List ℤ
to_three = negsuc 2 ∷ negsuc 1 ∷ negsuc 0 ∷ pos 0 ∷ pos 1 ∷ pos 2 ∷ pos 3 ∷ []

-- the cells of a row
abbrev pub row : ℤ → List ℤ → List Offset
row dy columns = map (λ dx. record { dx = dx; dy = dy }) columns

-- five rows of five
abbrev pub square_offsets : List Offset
square_offsets = flat_map (λ dy. row dy to_two) to_two

-- rows of one, three, five, seven, five, three and one: the points at most three steps away
abbrev pub diamond_offsets : List Offset
diamond_offsets =
    row (negsuc 2) none ++ row (negsuc 1) to_one ++ row (negsuc 0) to_two ++ row (pos 0) to_three
    ++ row (pos 1) to_two ++ row (pos 2) to_one ++ row (pos 3) none

-- the cells of a kind
abbrev pub offsets_of : Kind → List Offset
offsets_of kind.Square = square_offsets
offsets_of kind.Diamond = diamond_offsets
