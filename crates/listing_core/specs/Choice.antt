-- Which trees are chosen, and what is written of them.
use Rattle.std.specs.Prelude.{ℕ, Bool, true, false, Option, option_map, List, [], ◌∷◌, ◌++◌, slice_range, if◌then◌else◌}
use Rattle.sgf_core.specs.Tree.{GameTree, Node, main_line_of}
use Rattle.sgf_core.specs.declared.faults.SgfFault.{SgfFault}
use Rattle.shape_dict.specs.Text.{line_feed}
use Rattle.listing_core.specs.declared.asked.Asked.{Asked}
use Rattle.listing_core.specs.declared.asked.Form.{Form}
use Rattle.listing_core.specs.declared.asked.Form.TheVariants as form
use Rattle.listing_core.specs.declared.conditions.Condition.{Condition}
use Rattle.listing_core.specs.declared.lines.Line.{Line}
use Rattle.listing_core.specs.declared.lines.What.{What}
use Rattle.listing_core.specs.declared.lines.What.TheVariants as what
use Rattle.listing_core.specs.Columns.{tab, no_columns, columns_text}
use Rattle.listing_core.specs.Conditions.{meets_all}
use Rattle.listing_core.specs.Lines.{space, line_text, fault_line}

-- whether what is no game has a line: where all trees have one
abbrev pub lists_all : Form → List Condition → Bool
lists_all form.Lines [] = true
lists_all form.Columns [] = true
lists_all form.Trees [] = false
lists_all found (condition ∷ conditions) = false

-- a game is chosen where it meets all conditions
abbrev pub is_chosen : Form → List Condition → List Node → What → Bool
is_chosen found conditions line (what.Game size moves occasions) = meets_all conditions line size
is_chosen found conditions line what.Other = lists_all found conditions
is_chosen found conditions line (what.Refused fault) = lists_all found conditions

-- the name of the file
abbrev pub name_in : Asked → Option (List ℕ)
name_in asked = option_map (λ name. name.now) asked.name

-- what is written of a tree with this line and this main line, where it is chosen
abbrev pub form_text : Form → Option (List ℕ) → List ℕ → List Node → Line → List ℕ
form_text form.Lines name bytes nodes line = line_text name line
form_text form.Columns name bytes nodes line = columns_text name nodes line
form_text form.Trees name bytes nodes line = slice_range bytes line.from line.to ++ line_feed

-- what is written of a tree
abbrev pub piece : Asked → List ℕ → List Node → Line → List ℕ
piece asked bytes nodes line =
    if is_chosen asked.form asked.conditions.now nodes line.what then form_text asked.form (name_in asked) bytes nodes line else []

-- what is written of these trees, which have these lines
abbrev pub pieces : Asked → List ℕ → List GameTree → List Line → List ℕ
pieces asked bytes (tree ∷ trees) (line ∷ lines) = piece asked bytes (main_line_of tree) line ++ pieces asked bytes trees lines
pieces asked bytes _ _ = []

-- the last line of an input with a fault of syntax, where all trees have lines
abbrev pub fault_form : Form → Option (List ℕ) → ℕ → ℕ → SgfFault → List ℕ
fault_form form.Lines name from to fault = fault_line space [] name from to fault
fault_form form.Columns name from to fault = fault_line tab no_columns name from to fault
fault_form form.Trees name from to fault = []

abbrev pub fault_piece : Asked → ℕ → ℕ → SgfFault → List ℕ
fault_piece asked from to fault =
    if lists_all asked.form asked.conditions.now then fault_form asked.form (name_in asked) from to fault else []
