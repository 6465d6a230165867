-- The main line, read from a tree's marks, is that of the tree.
use Rattle.std.proofs.Common.{◌≡◌, List, [], ◌∷◌, ◌++◌, map, refl, ap, ◌∙◌, append_assoc}
use Rattle.std.proofs.lemmas.List.{append-nil}
use Rattle.std.specs.List.{flat_map}
use Rattle.sgf_core.specs.Tree.{Property, Node, Forest, no_trees, a_tree, GameTree, first_line, main_line_of}
use Rattle.sgf_core.specs.Marks.{node_marks, forest_marks, marks_of}
use Rattle.sgf_core.specs.Inner.Lines.{leading_properties, line_of}
use Rattle.sgf_core.specs.declared.marks.Mark.{Mark}
use Rattle.sgf_core.specs.declared.marks.Mark.TheVariants as mark

leading-properties : (node : Node) (marks : List Mark) → leading_properties (map mark.Prop node ++ marks) ≡ node ++ leading_properties marks
leading-properties [] marks = refl
leading-properties (p ∷ node) marks = ap (λ ps. p ∷ ps) (leading-properties node marks)

line-properties : (node : Node) (marks : List Mark) → line_of (map mark.Prop node ++ marks) ≡ line_of marks
line-properties [] marks = refl
line-properties (p ∷ node) marks = line-properties node marks

leading-nodes : (nodes : List Node) (marks : List Mark) → leading_properties marks ≡ [] → leading_properties (flat_map node_marks nodes ++ marks) ≡ []
leading-nodes [] marks none = none
leading-nodes (node ∷ nodes) marks none = refl

line-nodes : (nodes : List Node) (marks : List Mark) → leading_properties marks ≡ [] → line_of (flat_map node_marks nodes ++ marks) ≡ nodes ++ line_of marks
line-nodes [] marks none = refl
line-nodes (node ∷ nodes) marks none =
    let rest = flat_map node_marks nodes ++ marks in
    ap (λ (ms : List Mark). leading_properties ms ∷ line_of ms) (append_assoc (map mark.Prop node) (flat_map node_marks nodes) marks)
    ∙ cc (leading-properties node rest, ap (λ (ps : List Property). node ++ ps) (leading-nodes nodes marks none), append-nil node, line-properties node rest, line-nodes nodes marks none)

leading-forest : (forest : Forest) (rest : List Mark) → leading_properties (forest_marks forest ++ mark.End ∷ rest) ≡ []
leading-forest no_trees rest = refl
leading-forest (a_tree nodes inner later) rest = refl

line-forest : (forest : Forest) (rest : List Mark) → line_of (forest_marks forest ++ mark.End ∷ rest) ≡ first_line forest
line-forest no_trees rest = refl
line-forest (a_tree nodes inner later) rest =
    rw (append_assoc, append_assoc) (
    line-nodes nodes _ (leading-forest inner _) ∙ ap (λ line. nodes ++ line) (line-forest inner _)
    )

-- of the marks of a tree
pub line-marks : (tree : GameTree) → line_of (marks_of tree) ≡ main_line_of tree
line-marks tree =
    rw append_assoc (
    line-nodes tree.nodes _ (leading-forest tree.inner []) ∙ ap (λ line. tree.nodes ++ line) (line-forest tree.inner [])
    )
