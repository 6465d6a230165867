-- Which bytes write a game tree, by the grammar of SGF FF[4]: the parts of the tree in order, with white bytes
-- allowed between any two of them. Places are byte offsets in the whole input, from 0.
use Rattle.std.specs.Prelude.{◌≡◌, ◌≢◌, ℕ, ◌+◌, ◌==◌, Bool, true, false, not, IsTrue, List, [], ◌∷◌, ◌++◌, length, map, if◌then◌else◌}
use Rattle.std.specs.List.{flat_map, list_all, AllByRecursion}
use Rattle.sgf_core.specs.Bytes.{is_white, is_letter, open_parenthesis, close_parenthesis, semicolon, open_bracket, backslash, close_bracket}
use Rattle.sgf_core.specs.Tree.{PropertyValue, Property, Node, Forest, no_trees, a_tree, GameTree}

-- what a tree is written of, after its first parenthesis
pub data Part : Type 0 where
  opens : Part
  begins_node : Part
  names : (identifier : List ℕ) → Part
  has_value : (value : PropertyValue) → Part
  closes : Part

-- an identifier, then its values
abbrev pub property_parts : Property → List Part
property_parts property = names property.identifier ∷ map has_value property.values

-- a semicolon, then the properties
abbrev pub node_parts : Node → List Part
node_parts node = begins_node ∷ flat_map property_parts node

-- each tree: a parenthesis, its nodes, its inner trees, a parenthesis
abbrev pub forest_parts : Forest → List Part
forest_parts no_trees = []
forest_parts (a_tree nodes inner rest) =
    opens ∷ (flat_map node_parts nodes ++ forest_parts inner ++ closes ∷ forest_parts rest)

-- the parts of a tree after its first parenthesis
abbrev pub tree_parts : GameTree → List Part
tree_parts tree = flat_map node_parts tree.nodes ++ forest_parts tree.inner ++ closes ∷ []

-- Whether no bracket in these bytes ends a value: a backslash takes the meaning away from the byte after it,
-- and is not the last byte. `escaped` says whether a backslash comes before them.
abbrev pub is_text_after : Bool → List ℕ → Bool
is_text_after escaped [] = not escaped
is_text_after true (byte ∷ bytes) = is_text_after false bytes
is_text_after false (byte ∷ bytes) =
    if byte == close_bracket then false else is_text_after (byte == backslash) bytes

abbrev pub is_value_text : List ℕ → Bool
is_value_text bytes = is_text_after false bytes

-- the bytes that write one part at a place
abbrev pub IsPartText : ℕ → Part → List ℕ → Type 0
IsPartText at opens text = text ≡ open_parenthesis ∷ []
IsPartText at begins_node text = text ≡ semicolon ∷ []
IsPartText at (names identifier) text = (text ≡ identifier) × (identifier ≢ []) × IsTrue (list_all is_letter identifier)
IsPartText at (has_value value) text =
    (text ≡ open_bracket ∷ value.bytes ++ close_bracket ∷ []) × IsTrue (is_value_text value.bytes) × (value.at ≡ at + 1)
IsPartText at closes text = text ≡ close_parenthesis ∷ []

-- the bytes that write these parts in order, each after any number of white bytes
abbrev pub WritesParts : ℕ → List Part → List ℕ → Type 0
WritesParts at [] text = text ≡ []
WritesParts at (part ∷ parts) text =
    (white : List ℕ) × (written : List ℕ) × (rest : List ℕ)
    × (text ≡ white ++ written ++ rest)
    × IsTrue (list_all is_white white)
    × IsPartText (at + length white) part written
    × WritesParts (at + length white + length written) parts rest

-- each property has a value
abbrev pub HasValues : Node → Type 0
HasValues node = AllByRecursion (λ property. property.values ≢ []) node

-- each tree has a node, and each property a value
abbrev pub AreComplete : Forest → Type 0
AreComplete no_trees = Unit {0}
AreComplete (a_tree nodes inner rest) = (nodes ≢ []) × AllByRecursion HasValues nodes × AreComplete inner × AreComplete rest

abbrev pub IsComplete : GameTree → Type 0
IsComplete tree = (tree.nodes ≢ []) × AllByRecursion HasValues tree.nodes × AreComplete tree.inner

-- the bytes that write a tree whose first parenthesis is at a place
pub record WritesTree (at : ℕ) (tree : GameTree) (text : List ℕ) : Type 0 where
  pub complete : IsComplete tree
  pub inside : List ℕ
  pub begins : text ≡ open_parenthesis ∷ inside
  pub parts : WritesParts (at + 1) (tree_parts tree) inside

-- a good front of a tree at a place: some continuation of it makes a tree
pub record IsGoodFront (at : ℕ) (front : List ℕ) : Type 0 where
  pub continuation : List ℕ
  pub tree : GameTree
  pub writes : WritesTree at tree (front ++ continuation)
