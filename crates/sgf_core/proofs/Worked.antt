-- The definitions on worked values.
use Rattle.std.proofs.Common.{◌≡◌, ℕ, true, false, List, [], ◌∷◌, refl}
use Rattle.std.specs.Prelude.{codes}
use Rattle.sgf_core.specs.Bytes.{is_white, is_letter}
use Rattle.sgf_core.specs.Tree.{Property, no_trees, a_tree, GameTree, name_of, main_line_of}
use Rattle.sgf_core.specs.Grammar.{is_value_text}
use Rattle.sgf_core.specs.Counts.{value_count}
use Rattle.sgf_core.specs.Marks.{marks_of}
use Rattle.sgf_core.specs.declared.marks.Mark.TheVariants as mark

-- `Black` is B, `SiZe` is SZ, and an identifier of lower-case letters has the empty name
black : name_of (codes "Black") ≡ codes "B"
black = refl

size : name_of (codes "SiZe") ≡ codes "SZ"
size = refl

lower : name_of (codes "komi") ≡ []
lower = refl

-- white bytes: 09 to 0D and 20
vertical_tab : is_white 11 ≡ true
vertical_tab = refl

shift_out : is_white 14 ≡ false
shift_out = refl

digit : is_letter 49 ≡ false
digit = refl

-- `a\]b` and `\\` are texts of values; `a]`, `a\` and `\\]` are not
escaped_bracket : is_value_text (97 ∷ 92 ∷ 93 ∷ 98 ∷ []) ≡ true
escaped_bracket = refl

escaped_backslash : is_value_text (92 ∷ 92 ∷ []) ≡ true
escaped_backslash = refl

bare_bracket : is_value_text (97 ∷ 93 ∷ []) ≡ false
bare_bracket = refl

open_end : is_value_text (97 ∷ 92 ∷ []) ≡ false
open_end = refl

-- `(;B[aa](;W[bb])(;C[]))`: the main line is the first node, and the node of the first inner tree
move : List ℕ → ℕ → List ℕ → Property
move identifier at bytes = record { identifier = identifier; values = record { at = at; bytes = bytes } ∷ [] }

first : Property
unfolding move
first = move (codes "B") 4 (codes "aa")

second : Property
unfolding move
second = move (codes "W") 11 (codes "bb")

third : Property
unfolding move
third = move (codes "C") 19 []

game : GameTree
game = record { nodes = (first ∷ []) ∷ []; inner = a_tree ((second ∷ []) ∷ []) no_trees (a_tree ((third ∷ []) ∷ []) no_trees no_trees) }

line : main_line_of game ≡ (first ∷ []) ∷ (second ∷ []) ∷ []
unfolding game
line = refl

marks : marks_of game ≡ mark.Begin ∷ mark.Node ∷ mark.Prop first ∷ mark.Begin ∷ mark.Node ∷ mark.Prop second ∷ mark.End ∷ mark.Begin ∷ mark.Node ∷ mark.Prop third ∷ mark.End ∷ mark.End ∷ []
unfolding game
marks = refl

values : value_count (main_line_of game) ≡ 2
unfolding game first second move
values = refl
