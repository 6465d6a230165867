-- The marks of a complete tree lead to the end, and their parts are the tree's.
use Rattle.std.proofs.Common.{◌≡◌, ◌≢◌, ℕ, suc, List, [], ◌∷◌, ◌++◌, map, refl, ap, ◌∙◌, append_assoc}
use Rattle.std.specs.List.{flat_map, AllByRecursion}
use Rattle.std.proofs.lemmas.List.Concat.{flat_map-append}
use Rattle.sgf_core.specs.Tree.{PropertyValue, Node, Forest, no_trees, a_tree, GameTree}
use Rattle.sgf_core.specs.Grammar.{Part, opens, begins_node, closes, HasValues, AreComplete, IsComplete, property_parts, node_parts, forest_parts, tree_parts}
use Rattle.sgf_core.specs.Marks.{node_marks, forest_marks}
use Rattle.sgf_core.specs.Inner.Pieces.{mark_parts, parts_of}
use Rattle.sgf_core.specs.declared.marks.Mark.{Mark}
use Rattle.sgf_core.specs.declared.marks.Mark.TheVariants as mark
use Rattle.sgf_core.specs.declared.marks.Expects.{Expects}
use Rattle.sgf_core.specs.declared.marks.Expects.TheVariants as expects
use Rattle.sgf_core.proofs.Stages.{Stage, finished, inside, ended, valued_stage, follow, follow_all}
use Rattle.sgf_core.proofs.Building.{inner_marks}

-- ---- the parts of the marks are those of the tree

parts-properties : (node : Node) → parts_of (map mark.Prop node) ≡ flat_map property_parts node
parts-properties [] = refl
parts-properties (property ∷ node) = ap (λ (ps : List Part). property_parts property ++ ps) (parts-properties node)

parts-nodes : (nodes : List Node) → parts_of (flat_map node_marks nodes) ≡ flat_map node_parts nodes
parts-nodes [] = refl
parts-nodes (node ∷ nodes) =
    flat_map-append mark_parts (node_marks node) (flat_map node_marks nodes)
    ∙ (ap (λ (ps : List Part). parts_of (node_marks node) ++ ps) (parts-nodes nodes)
    ∙ ap (λ (ps : List Part). begins_node ∷ ps ++ flat_map node_parts nodes) (parts-properties node))

parts-forest : (forest : Forest) → parts_of (forest_marks forest) ≡ forest_parts forest
parts-forest no_trees = refl
parts-forest (a_tree nodes inner rest) =
    ap (λ (ps : List Part). opens ∷ ps) (
    flat_map-append mark_parts (flat_map node_marks nodes ++ forest_marks inner) (mark.End ∷ forest_marks rest)
    ∙ (ap (λ (ps : List Part). ps ++ closes ∷ parts_of (forest_marks rest)) (flat_map-append mark_parts (flat_map node_marks nodes) (forest_marks inner) ∙ (ap (λ (ps : List Part). ps ++ parts_of (forest_marks inner)) (parts-nodes nodes) ∙ ap (λ (ps : List Part). flat_map node_parts nodes ++ ps) (parts-forest inner)))
    ∙ ap (λ (ps : List Part). flat_map node_parts nodes ++ forest_parts inner ++ closes ∷ ps) (parts-forest rest))
    )

pub parts-inner_marks : (tree : GameTree) → parts_of (inner_marks tree) ≡ tree_parts tree
parts-inner_marks tree =
    flat_map-append mark_parts (flat_map node_marks tree.nodes ++ forest_marks tree.inner) (mark.End ∷ [])
    ∙ ap (λ (ps : List Part). ps ++ closes ∷ []) (flat_map-append mark_parts (flat_map node_marks tree.nodes) (forest_marks tree.inner) ∙ (ap (λ (ps : List Part). ps ++ parts_of (forest_marks tree.inner)) (parts-nodes tree.nodes) ∙ ap (λ (ps : List Part). flat_map node_parts tree.nodes ++ ps) (parts-forest tree.inner)))

-- ---- a complete tree's marks lead to the end

follow-properties : (depth : ℕ) (node : Node) (marks : List Mark) → HasValues node → follow_all (inside expects.Any depth) (map mark.Prop node ++ marks) ≡ follow_all (inside expects.Any depth) marks
follow-properties depth [] marks h = refl
follow-properties depth (property ∷ node) marks h = ap (λ (s : Stage). follow_all s (map mark.Prop node ++ marks)) (some property.values h.0) ∙ follow-properties depth node marks h.1
  where
    some : (values : List PropertyValue) → values ≢ [] → valued_stage values depth ≡ inside expects.Any depth
    some [] k = absurd (k refl)
    some (value ∷ values) k = refl

follow-nodes : (depth : ℕ) (nodes : List Node) (marks : List Mark) → AllByRecursion HasValues nodes → follow_all (inside expects.Any depth) (flat_map node_marks nodes ++ marks) ≡ follow_all (inside expects.Any depth) marks
follow-nodes depth [] marks h = refl
follow-nodes depth (node ∷ nodes) marks h =
    ap (follow_all (inside expects.Any depth)) (append_assoc (map mark.Prop node) (flat_map node_marks nodes) marks)
    ∙ (follow-properties depth node (flat_map node_marks nodes ++ marks) h.0 ∙ follow-nodes depth nodes marks h.1)

-- the first node may come where only a node may
follow-first : (depth : ℕ) (nodes : List Node) (marks : List Mark) → nodes ≢ [] → AllByRecursion HasValues nodes → follow_all (inside expects.Node depth) (flat_map node_marks nodes ++ marks) ≡ follow_all (inside expects.Any depth) marks
follow-first depth [] marks some h = absurd (some refl)
follow-first depth (node ∷ nodes) marks some h = follow-nodes depth (node ∷ nodes) marks h

abbrev MayEnd : Expects → Type 0
MayEnd expects.Node = ⊥
MayEnd expects.Any = Unit {0}
MayEnd expects.Tree = Unit {0}

follow-end : (e : Expects) (depth : ℕ) → MayEnd e → follow (inside e depth) mark.End ≡ ended depth
follow-end expects.Node depth h = absurd h
follow-end expects.Any depth h = refl
follow-end expects.Tree depth h = refl

follow-begin : (e : Expects) (depth : ℕ) → MayEnd e → follow (inside e depth) mark.Begin ≡ inside expects.Node (suc depth)
follow-begin expects.Node depth h = absurd h
follow-begin expects.Any depth h = refl
follow-begin expects.Tree depth h = refl

follow-forest : (e : Expects) (depth : ℕ) (forest : Forest) (marks : List Mark) → MayEnd e → AreComplete forest → follow_all (inside e depth) (forest_marks forest ++ mark.End ∷ marks) ≡ follow_all (ended depth) marks
follow-forest e depth no_trees marks may h = ap (λ (s : Stage). follow_all s marks) (follow-end e depth may)
follow-forest e depth (a_tree nodes inner rest) marks may h =
    let later = forest_marks rest ++ mark.End ∷ marks in
    ap (λ (s : Stage). follow_all s ((flat_map node_marks nodes ++ forest_marks inner ++ mark.End ∷ forest_marks rest) ++ mark.End ∷ marks)) (follow-begin e depth may)
    ∙ (ap (follow_all (inside expects.Node (suc depth))) (append_assoc (flat_map node_marks nodes ++ forest_marks inner) (mark.End ∷ forest_marks rest) (mark.End ∷ marks) ∙ append_assoc (flat_map node_marks nodes) (forest_marks inner) (mark.End ∷ later))
    ∙ (follow-first (suc depth) nodes (forest_marks inner ++ mark.End ∷ later) h.0 h.1
    ∙ (follow-forest expects.Any (suc depth) inner later tt h.2 ∙ follow-forest expects.Tree depth rest marks tt h.3)))

pub follow-inner_marks : (tree : GameTree) → IsComplete tree → follow_all (inside expects.Node 0) (inner_marks tree) ≡ finished
follow-inner_marks tree h =
    ap (follow_all (inside expects.Node 0)) (append_assoc (flat_map node_marks tree.nodes) (forest_marks tree.inner) (mark.End ∷ []))
    ∙ (follow-first 0 tree.nodes (forest_marks tree.inner ++ mark.End ∷ []) h.0 h.1 ∙ follow-forest expects.Any 0 tree.inner [] tt h.2)
