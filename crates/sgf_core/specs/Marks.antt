-- A tree's marks: its parts one after another as it is written, each property whole.
use Rattle.std.specs.Prelude.{List, [], ◌∷◌, ◌++◌, map}
use Rattle.std.specs.List.{flat_map}
use Rattle.sgf_core.specs.Tree.{Node, Forest, no_trees, a_tree, GameTree}
use Rattle.sgf_core.specs.declared.marks.Mark.{Mark}
use Rattle.sgf_core.specs.declared.marks.Mark.TheVariants as mark

-- a node's mark, then one for each property
abbrev pub node_marks : Node → List Mark
node_marks node = mark.Node ∷ map mark.Prop node

abbrev pub forest_marks : Forest → List Mark
forest_marks no_trees = []
forest_marks (a_tree nodes inner rest) =
    mark.Begin ∷ (flat_map node_marks nodes ++ forest_marks inner ++ mark.End ∷ forest_marks rest)

abbrev pub marks_of : GameTree → List Mark
marks_of tree = mark.Begin ∷ (flat_map node_marks tree.nodes ++ forest_marks tree.inner ++ mark.End ∷ [])
