-- A tree from its marks, read from the last to the first.
use Rattle.std.proofs.Common.{◌≡◌, List, [], ◌∷◌, ◌++◌, map, refl, ap, ◌∙◌, append_assoc}
use Rattle.std.specs.List.{flat_map}
use Rattle.std.proofs.lemmas.List.{append-nil}
use Rattle.sgf_core.specs.Tree.{Property, Node, Forest, no_trees, a_tree, GameTree}
use Rattle.sgf_core.specs.Marks.{node_marks, forest_marks}
use Rattle.sgf_core.specs.declared.marks.Mark.{Mark}
use Rattle.sgf_core.specs.declared.marks.Mark.TheVariants as mark

-- what the last marks of a tree say: properties of a node that began before, nodes and trees of a tree that did,
-- and for each tree round that one the trees after it
pub record Rest : Type 0 where
  pub properties : List Property
  pub nodes : List Node
  pub inner : Forest
  pub outer : List Forest

abbrev pub first_of_outer : List Forest → Forest
first_of_outer [] = no_trees
first_of_outer (forest ∷ outer) = forest

abbrev pub rest_of_outer : List Forest → List Forest
rest_of_outer [] = []
rest_of_outer (forest ∷ outer) = outer

abbrev pub before : Mark → Rest → Rest
before mark.Begin rest = record { properties = []; nodes = []; inner = a_tree rest.nodes rest.inner (first_of_outer rest.outer); outer = rest_of_outer rest.outer }
before mark.Node rest = record { properties = []; nodes = rest.properties ∷ rest.nodes; inner = rest.inner; outer = rest.outer }
before (mark.Prop property) rest = record { properties = property ∷ rest.properties; nodes = rest.nodes; inner = rest.inner; outer = rest.outer }
before mark.End rest = record { properties = []; nodes = []; inner = no_trees; outer = rest.inner ∷ rest.outer }

abbrev pub build : List Mark → Rest
build [] = record { properties = []; nodes = []; inner = no_trees; outer = [] }
build (m ∷ marks) = before m (build marks)

abbrev pub tree_of : List Mark → GameTree
tree_of marks = record { nodes = (build marks).nodes; inner = (build marks).inner }

-- a tree's marks after the first
abbrev pub inner_marks : GameTree → List Mark
inner_marks tree = flat_map node_marks tree.nodes ++ forest_marks tree.inner ++ mark.End ∷ []

-- ---- what is built of a tree's marks is the tree

abbrev behind_properties : List Property → Rest → Rest
behind_properties properties rest = record { properties = properties ++ rest.properties; nodes = rest.nodes; inner = rest.inner; outer = rest.outer }

build-properties : (node : Node) (marks : List Mark) → build (map mark.Prop node ++ marks) ≡ behind_properties node (build marks)
build-properties [] marks = refl
build-properties (property ∷ node) marks = ap (before (mark.Prop property)) (build-properties node marks)

abbrev behind_nodes : List Node → Rest → Rest
behind_nodes nodes rest = record { properties = []; nodes = nodes ++ rest.nodes; inner = rest.inner; outer = rest.outer }

build-nodes : (nodes : List Node) (marks : List Mark) → (build marks).properties ≡ [] → build (flat_map node_marks nodes ++ marks) ≡ behind_nodes nodes (build marks)
build-nodes [] marks none = ap (λ (ps : List Property). record { properties = ps; nodes = (build marks).nodes; inner = (build marks).inner; outer = (build marks).outer }) none
build-nodes (node ∷ nodes) marks none =
    let rest = flat_map node_marks nodes ++ marks in
    ap (λ (ms : List Mark). before mark.Node (build ms)) (append_assoc (map mark.Prop node) (flat_map node_marks nodes) marks)
    ∙ (ap (before mark.Node) (build-properties node rest)
    ∙ (ap (λ (r : Rest). before mark.Node (behind_properties node r)) (build-nodes nodes marks none)
    ∙ ap (λ (ps : List Property). before mark.Node (record { properties = ps; nodes = nodes ++ (build marks).nodes; inner = (build marks).inner; outer = (build marks).outer })) (append-nil node)))

abbrev joined : Forest → Forest → Forest
joined no_trees later = later
joined (a_tree nodes inner rest) later = a_tree nodes inner (joined rest later)

joined-none : (forest : Forest) → joined forest no_trees ≡ forest
joined-none no_trees = refl
joined-none (a_tree nodes inner rest) = ap (λ (f : Forest). a_tree nodes inner f) (joined-none rest)

abbrev behind_forest : Forest → Rest → Rest
behind_forest forest rest = record { properties = []; nodes = []; inner = joined forest rest.inner; outer = rest.outer }

abbrev a_tree_rest : List Node → Forest → Forest → List Forest → Rest
a_tree_rest nodes inner rest outer = record { properties = []; nodes = []; inner = a_tree nodes inner rest; outer = outer }

build-forest : (forest : Forest) (marks : List Mark) → (build marks).properties ≡ [] → (build marks).nodes ≡ [] → build (forest_marks forest ++ marks) ≡ behind_forest forest (build marks)
build-forest no_trees marks none no_nodes =
    ap (λ (ps : List Property). record { properties = ps; nodes = (build marks).nodes; inner = (build marks).inner; outer = (build marks).outer }) none
    ∙ ap (λ (ns : List Node). record { properties = []; nodes = ns; inner = (build marks).inner; outer = (build marks).outer }) no_nodes
build-forest (a_tree nodes inner rest) marks none no_nodes =
    let later = forest_marks rest ++ marks in
    let e : (flat_map node_marks nodes ++ forest_marks inner ++ mark.End ∷ forest_marks rest) ++ marks ≡ flat_map node_marks nodes ++ (forest_marks inner ++ mark.End ∷ later) =
    append_assoc (flat_map node_marks nodes ++ forest_marks inner) (mark.End ∷ forest_marks rest) marks ∙ append_assoc (flat_map node_marks nodes) (forest_marks inner) (mark.End ∷ later) in
    let in_tree : build (forest_marks inner ++ mark.End ∷ later) ≡ record { properties = []; nodes = []; inner = inner; outer = joined rest (build marks).inner ∷ (build marks).outer } =
    build-forest inner (mark.End ∷ later) refl refl
    ∙ (ap (λ (f : Forest). record { properties = []; nodes = []; inner = f; outer = (build later).inner ∷ (build later).outer }) (joined-none inner)
    ∙ ap (λ (r : Rest). record { properties = []; nodes = []; inner = inner; outer = r.inner ∷ r.outer }) (build-forest rest marks none no_nodes)) in
    ap (λ (ms : List Mark). before mark.Begin (build ms)) e
    ∙ (ap (before mark.Begin) (build-nodes nodes (forest_marks inner ++ mark.End ∷ later) (ap (λ (r : Rest). r.properties) in_tree))
    ∙ (ap (λ (r : Rest). before mark.Begin (behind_nodes nodes r)) in_tree
    ∙ ap (λ (ns : List Node). a_tree_rest ns inner (joined rest (build marks).inner) (build marks).outer) (append-nil nodes)))

-- of its own marks
pub tree_of-inner_marks : (tree : GameTree) → tree_of (inner_marks tree) ≡ tree
tree_of-inner_marks tree =
    let end : List Mark = mark.End ∷ [] in
    let in_tree : build (forest_marks tree.inner ++ end) ≡ record { properties = []; nodes = []; inner = tree.inner; outer = no_trees ∷ [] } =
    build-forest tree.inner end refl refl ∙ ap (λ (f : Forest). record { properties = []; nodes = []; inner = f; outer = no_trees ∷ [] }) (joined-none tree.inner) in
    let all : build (inner_marks tree) ≡ record { properties = []; nodes = tree.nodes; inner = tree.inner; outer = no_trees ∷ [] } =
    ap build (append_assoc (flat_map node_marks tree.nodes) (forest_marks tree.inner) end)
    ∙ (build-nodes tree.nodes (forest_marks tree.inner ++ end) (ap (λ (r : Rest). r.properties) in_tree)
    ∙ (ap (behind_nodes tree.nodes) in_tree ∙ ap (λ (ns : List Node). record { properties = []; nodes = ns; inner = tree.inner; outer = no_trees ∷ [] }) (append-nil tree.nodes))) in
    ap (λ (r : Rest). record { nodes = r.nodes; inner = r.inner }) all
