-- Trees that are cut out of an input, read back from the text that they are in.
use Rattle.std.specs.Prelude.{◌≡◌, ℕ, ◌+◌, ◌-◌, List, [], ◌∷◌, map, if◌then◌else◌}
use Rattle.sgf_core.specs.Tree.{PropertyValue, Property, Node, Forest, no_trees, a_tree, GameTree, main_line_of}
use Rattle.sgf_core.specs.Next.{HasNoTree}
use Rattle.game_core.specs.Collection.{AreTrees}
use Rattle.listing_core.specs.declared.asked.Asked.{Asked}
use Rattle.listing_core.specs.declared.lines.Line.{Line}
use Rattle.listing_core.specs.Choice.{is_chosen}

-- those of these trees, which have these lines, that are chosen
abbrev pub chosen_trees : Asked → List GameTree → List Line → List GameTree
chosen_trees asked [] lines = []
chosen_trees asked (tree ∷ trees) [] = []
chosen_trees asked (tree ∷ trees) (line ∷ lines) =
    if is_chosen asked.form asked.conditions.now (main_line_of tree) line.what
    then tree ∷ chosen_trees asked trees lines else chosen_trees asked trees lines

-- the place that a place has when what stands from `from` on is moved to `to`
abbrev pub moved : ℕ → ℕ → ℕ → ℕ
moved from to place = place - from + to

-- what a tree is when its values are at these other places
abbrev pub value_at : (ℕ → ℕ) → PropertyValue → PropertyValue
value_at place value = record { at = place value.at; bytes = value.bytes }

abbrev pub property_at : (ℕ → ℕ) → Property → Property
property_at place property = record { identifier = property.identifier; values = map (value_at place) property.values }

abbrev pub node_at : (ℕ → ℕ) → Node → Node
node_at place node = map (property_at place) node

abbrev pub forest_at : (ℕ → ℕ) → Forest → Forest
forest_at place no_trees = no_trees
forest_at place (a_tree nodes inner rest) = a_tree (map (node_at place) nodes) (forest_at place inner) (forest_at place rest)

abbrev pub tree_at : (ℕ → ℕ) → GameTree → GameTree
tree_at place tree = record { nodes = map (node_at place) tree.nodes; inner = forest_at place tree.inner }

-- these trees are those, one after another, each moved to another place
abbrev pub AreMoved : List GameTree → List GameTree → Type 0
AreMoved [] [] = Unit {0}
AreMoved [] (other ∷ others) = ⊥
AreMoved (tree ∷ trees) [] = ⊥
AreMoved (tree ∷ trees) (other ∷ others) = ((from : ℕ) × (to : ℕ) × (other ≡ tree_at (moved from to) tree)) × AreMoved trees others

-- from a place of the text on there are these trees, each moved to another place, and no other
pub record IsReadFrom (text : List ℕ) (place : ℕ) (chosen : List GameTree) : Type 0 where
  pub trees : List GameTree
  pub end : ℕ
  pub written : AreTrees text place trees end
  pub no_more : HasNoTree text end
  pub same : AreMoved chosen trees
