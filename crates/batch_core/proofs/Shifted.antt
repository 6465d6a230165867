-- A tree that is written some bytes later is the same but for the places of its values.
use Rattle.std.proofs.Common.{◌≡◌, ◌≢◌, ℕ, ◌+◌, List, [], ◌∷◌, ◌++◌, length, map, refl, sym, ap, subst, arith}
use Rattle.std.specs.List.{flat_map, AllByRecursion}
use Rattle.std.proofs.lemmas.List.{map-append}
use Rattle.sgf_core.specs.Tree.{PropertyValue, Property, Node, Forest, no_trees, a_tree, GameTree}
use Rattle.sgf_core.specs.Grammar.{Part, opens, begins_node, names, has_value, closes, property_parts, node_parts, forest_parts, tree_parts, IsPartText, WritesParts, HasValues, AreComplete, WritesTree}
use Rattle.batch_core.proofs.Squares.{map-square, flat_map-square}

abbrev pub shifted_value : ℕ → PropertyValue → PropertyValue
shifted_value d value = record { at = d + value.at; bytes = value.bytes }

abbrev pub shifted_property : ℕ → Property → Property
shifted_property d property = record { identifier = property.identifier; values = map (shifted_value d) property.values }

abbrev pub shifted_node : ℕ → Node → Node
shifted_node d node = map (shifted_property d) node

abbrev pub shifted_forest : ℕ → Forest → Forest
shifted_forest d no_trees = no_trees
shifted_forest d (a_tree nodes inner rest) = a_tree (map (shifted_node d) nodes) (shifted_forest d inner) (shifted_forest d rest)

-- the tree with this number added to the place of each value
abbrev pub shifted_tree : ℕ → GameTree → GameTree
shifted_tree d tree = record { nodes = map (shifted_node d) tree.nodes; inner = shifted_forest d tree.inner }

abbrev shifted_part : ℕ → Part → Part
shifted_part d opens = opens
shifted_part d begins_node = begins_node
shifted_part d (names identifier) = names identifier
shifted_part d (has_value value) = has_value (shifted_value d value)
shifted_part d closes = closes

-- ---- the parts of a shifted tree are the shifted parts

shifted-property_parts : (d : ℕ) (property : Property) → property_parts (shifted_property d property) ≡ map (shifted_part d) (property_parts property)
shifted-property_parts d property =
    ap (λ ps. names property.identifier ∷ ps) (map-square (shifted_value d) has_value has_value (shifted_part d) (λ value. refl) property.values)

shifted-node_parts : (d : ℕ) (node : Node) → node_parts (shifted_node d node) ≡ map (shifted_part d) (node_parts node)
shifted-node_parts d node =
    ap (λ ps. begins_node ∷ ps) (flat_map-square (shifted_property d) property_parts property_parts (shifted_part d) (shifted-property_parts d) node)

-- the nodes' parts, those of the trees inside, and what comes after
behind_nodes : (d : ℕ) (nodes : List Node) (inner behind inner_after behind_after : List Part) → inner_after ≡ map (shifted_part d) inner → behind_after ≡ map (shifted_part d) behind →
    flat_map node_parts (map (shifted_node d) nodes) ++ inner_after ++ behind_after ≡ map (shifted_part d) (flat_map node_parts nodes ++ inner ++ behind)
behind_nodes d nodes inner behind inner_after behind_after inner_is behind_is =
    let p = shifted_part d in
    let nodes_are : flat_map node_parts (map (shifted_node d) nodes) ≡ map p (flat_map node_parts nodes) = flat_map-square (shifted_node d) node_parts node_parts p (shifted-node_parts d) nodes in
    rw (nodes_are, inner_is, behind_is, map-append p (flat_map node_parts nodes ++ inner) behind, map-append p (flat_map node_parts nodes) inner) refl

shifted-forest_parts : (d : ℕ) (forest : Forest) → forest_parts (shifted_forest d forest) ≡ map (shifted_part d) (forest_parts forest)
shifted-forest_parts d no_trees = refl
shifted-forest_parts d (a_tree nodes inner rest) =
    ap (λ ps. opens ∷ ps) (behind_nodes d nodes (forest_parts inner) (closes ∷ forest_parts rest) (forest_parts (shifted_forest d inner)) (closes ∷ forest_parts (shifted_forest d rest))
    (shifted-forest_parts d inner) (ap (λ ps. closes ∷ ps) (shifted-forest_parts d rest)))

shifted-tree_parts : (d : ℕ) (tree : GameTree) → tree_parts (shifted_tree d tree) ≡ map (shifted_part d) (tree_parts tree)
shifted-tree_parts d tree =
    behind_nodes d tree.nodes (forest_parts tree.inner) (closes ∷ []) (forest_parts (shifted_forest d tree.inner)) (closes ∷ []) (shifted-forest_parts d tree.inner) refl

-- ---- the same bytes write the shifted parts later

part_later : (d at there : ℕ) (part : Part) (text : List ℕ) → there ≡ d + at → IsPartText at part text → IsPartText there (shifted_part d part) text
part_later d at there opens text is h = h
part_later d at there begins_node text is h = h
part_later d at there (names identifier) text is h = h
part_later d at there (has_value value) text is h = (h.0, h.1, omega (arith, h.2, is))
part_later d at there closes text is h = h

parts_later : (d at there : ℕ) (parts : List Part) (text : List ℕ) → there ≡ d + at → WritesParts at parts text → WritesParts there (map (shifted_part d) parts) text
parts_later d at there [] text is h = h
parts_later d at there (part ∷ parts) text is (white, written, rest, text_is, all_white, here, later) = (
  white,
  written,
  rest,
  text_is,
  all_white,
  part_later d (at + length white) (there + length white) part written (omega (arith, is)) here,
  parts_later d (at + length white + length written) (there + length white + length written) parts rest (omega (arith, is)) later,
)

-- ---- and the shifted tree is whole

some_left : {A B : Type 0} (f : A → B) (xs : List A) → xs ≢ [] → map f xs ≢ []
some_left f [] some = absurd (some refl)
some_left f (x ∷ xs) some = λ none. cc

values_stay : (d : ℕ) (node : Node) → HasValues node → HasValues (shifted_node d node)
values_stay d [] h = h
values_stay d (property ∷ node) h = (some_left (shifted_value d) property.values h.0, values_stay d node h.1)

all_values_stay : (d : ℕ) (nodes : List Node) → AllByRecursion HasValues nodes → AllByRecursion HasValues (map (shifted_node d) nodes)
all_values_stay d [] h = h
all_values_stay d (node ∷ nodes) h = (values_stay d node h.0, all_values_stay d nodes h.1)

complete_stays : (d : ℕ) (forest : Forest) → AreComplete forest → AreComplete (shifted_forest d forest)
complete_stays d no_trees h = h
complete_stays d (a_tree nodes inner rest) h =
    (some_left (shifted_node d) nodes h.0, all_values_stay d nodes h.1, complete_stays d inner h.2, complete_stays d rest h.3)

-- the same bytes write the shifted tree at the shifted place
pub tree_later : (d at there : ℕ) (tree : GameTree) (text : List ℕ) → there ≡ d + at → WritesTree at tree text → WritesTree there (shifted_tree d tree) text
tree_later d at there tree text is h = record {
  complete = (some_left (shifted_node d) tree.nodes h.complete.0, all_values_stay d tree.nodes h.complete.1, complete_stays d tree.inner h.complete.2);
  inside = h.inside;
  begins = h.begins;
  parts = subst (λ ps. WritesParts (there + 1) ps h.inside) (sym (shifted-tree_parts d tree)) (parts_later d (at + 1) (there + 1) (tree_parts tree) h.inside (omega (arith, is)) h.parts);
}
