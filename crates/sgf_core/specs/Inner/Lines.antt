-- What the marks of a tree, or a rest of them, say of a main line.
use Rattle.std.specs.Prelude.{List, [], ◌∷◌}
use Rattle.sgf_core.specs.Tree.{Property, Node}
use Rattle.sgf_core.specs.declared.marks.Mark.{Mark}
use Rattle.sgf_core.specs.declared.marks.Mark.TheVariants as mark

-- the properties up to the first mark of another kind
abbrev pub leading_properties : List Mark → List Property
leading_properties [] = []
leading_properties (mark.Prop property ∷ marks) = property ∷ leading_properties marks
leading_properties (mark.Begin ∷ marks) = []
leading_properties (mark.Node ∷ marks) = []
leading_properties (mark.End ∷ marks) = []

-- the nodes up to the first end of a tree
abbrev pub line_of : List Mark → List Node
line_of [] = []
line_of (mark.Node ∷ marks) = leading_properties marks ∷ line_of marks
line_of (mark.Prop property ∷ marks) = line_of marks
line_of (mark.Begin ∷ marks) = line_of marks
line_of (mark.End ∷ marks) = []
