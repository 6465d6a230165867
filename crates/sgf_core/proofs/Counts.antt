-- A tree has no more values than bytes.
use Rattle.std.proofs.Common.{◌≡◌, ◌≢◌, ℕ, ◌+◌, ◌<◌, ◌≤◌, List, [], ◌∷◌, ◌++◌, length, refl, sym, ap, ◌∙◌, arith, length-append}
use Rattle.std.proofs.lemmas.List.{length-map}
use Rattle.std.proofs.lemmas.List.Sums.{sum_by-append, sum_by-cons}
use Rattle.std.specs.Prelude.{sum_by, slice_range}
use Rattle.std.specs.List.{flat_map}
use Rattle.sgf_core.specs.Bytes.{open_bracket, close_bracket}
use Rattle.sgf_core.specs.Tree.{Property, Node, Forest, no_trees, a_tree, GameTree, first_line, main_line_of}
use Rattle.sgf_core.specs.Grammar.{Part, opens, begins_node, names, has_value, closes, IsPartText, WritesParts, property_parts, node_parts, forest_parts, tree_parts}
use Rattle.sgf_core.specs.Next.{IsNextTree}
use Rattle.sgf_core.specs.Counts.{value_count}
use Rattle.sgf_core.proofs.Slices.{length-slice}

-- each part takes a byte at least
some_bytes : (at : ℕ) (part : Part) (text : List ℕ) → IsPartText at part text → 1 ≤ length text
some_bytes at opens text h = let l : length text ≡ 1 = ap (λ (ys : List ℕ). length ys) h in omega arith
some_bytes at begins_node text h = let l : length text ≡ 1 = ap (λ (ys : List ℕ). length ys) h in omega arith
some_bytes at (names identifier) text h = go text (λ e. h.1 (sym h.0 ∙ e))
  where
    go : (ys : List ℕ) → ys ≢ [] → 1 ≤ length ys
    go [] some = absurd (some refl)
    go (y ∷ ys) some = omega arith
some_bytes at (has_value value) text h =
    let l : length text ≡ length (open_bracket ∷ value.bytes ++ close_bracket ∷ []) = ap (λ (ys : List ℕ). length ys) h.0 in
    omega (arith, length-append value.bytes (close_bracket ∷ []))
some_bytes at closes text h = let l : length text ≡ 1 = ap (λ (ys : List ℕ). length ys) h in omega arith

parts_fit : (at : ℕ) (parts : List Part) (text : List ℕ) → WritesParts at parts text → length parts ≤ length text
parts_fit at [] text h = omega arith
parts_fit at (part ∷ parts) text (w, written, rest, is, hw, hp, hr) =
    let later : length parts ≤ length rest = parts_fit (at + length w + length written) parts rest hr in
    let here : 1 ≤ length written = some_bytes (at + length w) part written hp in
    let l : length text ≡ length w + length written + length rest = ap (λ (ys : List ℕ). length ys) is ∙ simp length-append refl in
    omega arith

node-count : (node : Node) → sum_by (λ property. length property.values) node ≤ length (flat_map property_parts node)
node-count [] = omega arith
node-count (property ∷ node) =
    let later = node-count node in
    let e : sum_by (λ (p : Property). length p.values) (property ∷ node) ≡ length property.values + sum_by (λ p. length p.values) node = sum_by-cons (λ (p : Property). length p.values) property node in
    let l : length (property_parts property ++ flat_map property_parts node) ≡ length (property_parts property) + length (flat_map property_parts node) = length-append (property_parts property) (flat_map property_parts node) in
    omega (arith, length-map property.values has_value)

nodes-count : (nodes : List Node) → value_count nodes ≤ length (flat_map node_parts nodes)
nodes-count [] = omega arith
nodes-count (node ∷ nodes) =
    let here = node-count node in
    let later = nodes-count nodes in
    let e : value_count (node ∷ nodes) ≡ sum_by (λ property. length property.values) node + value_count nodes = sum_by-cons (λ (n : Node). sum_by (λ p. length p.values) n) node nodes in
    let l : length (node_parts node ++ flat_map node_parts nodes) ≡ length (node_parts node) + length (flat_map node_parts nodes) = length-append (node_parts node) (flat_map node_parts nodes) in
    omega arith

count-append : (nodes more : List Node) → value_count (nodes ++ more) ≡ value_count nodes + value_count more
count-append nodes more = sum_by-append (λ (node : Node). sum_by (λ property. length property.values) node) nodes more

line-count : (forest : Forest) → value_count (first_line forest) ≤ length (forest_parts forest)
line-count no_trees = omega arith
line-count (a_tree nodes inner rest) =
    let here = nodes-count nodes in
    let later = line-count inner in
    let both = count-append nodes (first_line inner) in
    let l = length-append (flat_map node_parts nodes ++ forest_parts inner) (closes ∷ forest_parts rest) in
    let m = length-append (flat_map node_parts nodes) (forest_parts inner) in
    omega arith

-- of the main line
pub few : (bytes : List ℕ) (from at end : ℕ) (tree : GameTree) → IsNextTree bytes from at end tree → at + value_count (main_line_of tree) < end
few bytes from at end tree h =
    let text = slice_range bytes at end in
    let l : at + length text ≡ end = length-slice bytes at end h.before_end h.in_input in
    let m : length text ≡ length h.writes.inside + 1 = ap (λ (ys : List ℕ). length ys) h.writes.begins ∙ omega arith in
    let fit : length (tree_parts tree) ≤ length h.writes.inside = parts_fit (at + 1) (tree_parts tree) h.writes.inside h.writes.parts in
    let here = nodes-count tree.nodes in
    let later = line-count tree.inner in
    let both = count-append tree.nodes (first_line tree.inner) in
    let n = length-append (flat_map node_parts tree.nodes ++ forest_parts tree.inner) (closes ∷ []) in
    let o = length-append (flat_map node_parts tree.nodes) (forest_parts tree.inner) in
    omega arith
