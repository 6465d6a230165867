-- Game trees as SGF FF[4] has them: a sequence of nodes, then inner trees. A node is its properties, in order.
use Rattle.std.specs.Prelude.{ℕ, List, [], ◌++◌, filter}
use Rattle.sgf_core.specs.Bytes.{is_upper}

-- a value: the place in the input of its first byte, and its bytes as they are written, with their escapes
pub record PropertyValue : Type 0 where
  pub at : ℕ
  pub bytes : List ℕ

-- a property: its identifier as it is written, and its values in order
pub record Property : Type 0 where
  pub identifier : List ℕ
  pub values : List PropertyValue

-- the name of a property is the upper-case letters of its identifier, in order (this project's own reading
-- of the identifiers of older formats, such as Black for B)
abbrev pub name_of : List ℕ → List ℕ
name_of identifier = filter is_upper identifier

abbrev pub Node : Type 0
Node = List Property

-- trees one after another: none, or a tree with its nodes and the trees inside it, and the rest
pub data Forest : Type 0 where
  no_trees : Forest
  a_tree : (nodes : List Node) → (inner : Forest) → (rest : Forest) → Forest

-- a tree: its nodes, and the trees inside it
pub record GameTree : Type 0 where
  pub nodes : List Node
  pub inner : Forest

-- the nodes of the main line of the first of these trees: its own, then those of its first inner tree
abbrev pub first_line : Forest → List Node
first_line no_trees = []
first_line (a_tree nodes inner rest) = nodes ++ first_line inner

-- the main line of a tree: its nodes, then the main line of its first inner tree
abbrev pub main_line_of : GameTree → List Node
main_line_of tree = tree.nodes ++ first_line tree.inner
