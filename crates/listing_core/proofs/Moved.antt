-- A tree that is moved to another place is written by the same bytes.
use Rattle.std.proofs.Common.{◌≡◌, ◌≢◌, ℕ, ◌+◌, ◌≤◌, List, [], ◌∷◌, ◌++◌, length, map, refl, ap, ap₂, sym, subst, ◌∙◌, arith}
use Rattle.std.specs.List.{flat_map, AllByRecursion}
use Rattle.std.proofs.lemmas.List.{map-append}
use Rattle.sgf_core.specs.Tree.{PropertyValue, Property, Node, Forest, no_trees, a_tree, GameTree}
use Rattle.sgf_core.specs.Grammar.{Part, opens, begins_node, names, has_value, closes, property_parts, node_parts, forest_parts, tree_parts, IsPartText, WritesParts, HasValues, AreComplete, WritesTree}
use Rattle.listing_core.specs.Cuts.{moved, value_at, property_at, node_at, forest_at, tree_at}

-- what a part is when its value is at another place
abbrev pub part_at : (ℕ → ℕ) → Part → Part
part_at place opens = opens
part_at place begins_node = begins_node
part_at place (names identifier) = names identifier
part_at place (has_value value) = has_value (value_at place value)
part_at place closes = closes

-- a list of parts for each element, where each element is moved
flat_map_moved : {A : Type 0} (g : Part → Part) (h : A → A) (parts : A → List Part) → ((a : A) → parts (h a) ≡ map g (parts a)) → (all : List A) →
    flat_map parts (map h all) ≡ map g (flat_map parts all)
flat_map_moved g h parts one [] = refl
flat_map_moved g h parts one (a ∷ all) =
    ap₂ (λ x y. x ++ y) (one a) (flat_map_moved g h parts one all) ∙ sym (map-append g (parts a) (flat_map parts all))

values_moved : (place : ℕ → ℕ) (values : List PropertyValue) → map has_value (map (value_at place) values) ≡ map (part_at place) (map has_value values)
values_moved place [] = refl
values_moved place (value ∷ values) = ap (λ parts. has_value (value_at place value) ∷ parts) (values_moved place values)

property_moved : (place : ℕ → ℕ) (property : Property) → property_parts (property_at place property) ≡ map (part_at place) (property_parts property)
property_moved place property = ap (λ parts. names property.identifier ∷ parts) (values_moved place property.values)

node_moved : (place : ℕ → ℕ) (node : Node) → node_parts (node_at place node) ≡ map (part_at place) (node_parts node)
node_moved place node =
    ap (λ parts. begins_node ∷ parts) (flat_map_moved (part_at place) (property_at place) property_parts (property_moved place) node)

nodes_moved : (place : ℕ → ℕ) (nodes : List Node) → flat_map node_parts (map (node_at place) nodes) ≡ map (part_at place) (flat_map node_parts nodes)
nodes_moved place nodes = flat_map_moved (part_at place) (node_at place) node_parts (node_moved place) nodes

-- nodes, then inner trees, then the rest
tree_moved : (place : ℕ → ℕ) (nodes : List Node) (inner rest : List Part) →
    flat_map node_parts (map (node_at place) nodes) ++ map (part_at place) inner ++ closes ∷ map (part_at place) rest
    ≡ map (part_at place) (flat_map node_parts nodes ++ inner ++ closes ∷ rest)
tree_moved place nodes inner rest =
    ap (λ parts. parts ++ map (part_at place) inner ++ closes ∷ map (part_at place) rest) (nodes_moved place nodes)
    ∙ ap (λ parts. parts ++ closes ∷ map (part_at place) rest) (sym (map-append (part_at place) (flat_map node_parts nodes) inner))
    ∙ sym (map-append (part_at place) (flat_map node_parts nodes ++ inner) (closes ∷ rest))

forest_moved : (place : ℕ → ℕ) (forest : Forest) → forest_parts (forest_at place forest) ≡ map (part_at place) (forest_parts forest)
forest_moved place no_trees = refl
forest_moved place (a_tree nodes inner rest) =
    ap (λ parts. opens ∷ parts)
    (ap₂ (λ x y. flat_map node_parts (map (node_at place) nodes) ++ x ++ closes ∷ y) (forest_moved place inner) (forest_moved place rest)
    ∙ tree_moved place nodes (forest_parts inner) (forest_parts rest))

parts_moved : (place : ℕ → ℕ) (tree : GameTree) → tree_parts (tree_at place tree) ≡ map (part_at place) (tree_parts tree)
parts_moved place tree =
    ap (λ x. flat_map node_parts (map (node_at place) tree.nodes) ++ x ++ closes ∷ []) (forest_moved place tree.inner)
    ∙ tree_moved place tree.nodes (forest_parts tree.inner) []

-- one part is written by the same bytes
part_text_moved : (from to at : ℕ) (part : Part) (text : List ℕ) → from ≤ at → IsPartText at part text → IsPartText (moved from to at) (part_at (moved from to) part) text
part_text_moved from to at opens text le h = h
part_text_moved from to at begins_node text le h = h
part_text_moved from to at (names identifier) text le h = h
part_text_moved from to at (has_value value) text le h =
    let place : moved from to value.at ≡ moved from to at + 1 = omega (arith, h.2, le) in (h.0, h.1, place)
part_text_moved from to at closes text le h = h

writes_moved : (from to at : ℕ) (parts : List Part) (text : List ℕ) → from ≤ at → WritesParts at parts text →
    WritesParts (moved from to at) (map (part_at (moved from to)) parts) text
writes_moved from to at [] text le h = h
writes_moved from to at (part ∷ parts) text le h =
    let white = h.0 in
    let written = h.1 in
    let rest = h.2 in
    let here : moved from to (at + length white) ≡ moved from to at + length white = omega (arith, le) in
    let behind : moved from to (at + length white + length written) ≡ moved from to at + length white + length written = omega (arith, le) in
    let within : from ≤ at + length white = omega (arith, le) in
    let after : from ≤ at + length white + length written = omega (arith, le) in (
      white,
      written,
      rest,
      h.3,
      h.4,
      subst (λ n. IsPartText n (part_at (moved from to) part) written) here (part_text_moved from to (at + length white) part written within h.5),
      subst (λ n. WritesParts n (map (part_at (moved from to)) parts) rest) behind (writes_moved from to (at + length white + length written) parts rest after h.6),
    )

-- a property has values wherever they are
some_moved : (place : ℕ → ℕ) (values : List PropertyValue) → values ≢ [] → map (value_at place) values ≢ []
some_moved place [] some none = some refl
some_moved place (value ∷ values) some none = cc

node_has : (place : ℕ → ℕ) (node : Node) → HasValues node → HasValues (node_at place node)
node_has place [] h = h
node_has place (property ∷ node) h = (some_moved place property.values h.0, node_has place node h.1)

nodes_have : (place : ℕ → ℕ) (nodes : List Node) → AllByRecursion HasValues nodes → AllByRecursion HasValues (map (node_at place) nodes)
nodes_have place [] h = h
nodes_have place (node ∷ nodes) h = (node_has place node h.0, nodes_have place nodes h.1)

some_nodes : (place : ℕ → ℕ) (nodes : List Node) → nodes ≢ [] → map (node_at place) nodes ≢ []
some_nodes place [] some none = some refl
some_nodes place (node ∷ nodes) some none = cc

forest_complete : (place : ℕ → ℕ) (forest : Forest) → AreComplete forest → AreComplete (forest_at place forest)
forest_complete place no_trees h = h
forest_complete place (a_tree nodes inner rest) h =
    (some_nodes place nodes h.0, nodes_have place nodes h.1, forest_complete place inner h.2, forest_complete place rest h.3)

-- a tree at another place
pub tree_writes : (from to : ℕ) (tree : GameTree) (text : List ℕ) → WritesTree from tree text → WritesTree to (tree_at (moved from to) tree) text
tree_writes from to tree text h =
    let place = moved from to in
    let first : moved from to (from + 1) ≡ to + 1 = omega arith in
    let within : from ≤ from + 1 = omega arith in
    record {
      complete = (some_nodes place tree.nodes h.complete.0, nodes_have place tree.nodes h.complete.1, forest_complete place tree.inner h.complete.2);
      inside = h.inside;
      begins = h.begins;
      parts = subst (λ parts. WritesParts (to + 1) parts h.inside) (sym (parts_moved place tree))
          (subst (λ n. WritesParts n (map (part_at place) (tree_parts tree)) h.inside) first (writes_moved from to (from + 1) (tree_parts tree) h.inside within h.parts));
    }
