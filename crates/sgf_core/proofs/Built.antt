-- Marks that lead to the end are those of the tree that is built of them.
use Rattle.std.proofs.Common.{◌≡◌, ◌≢◌, ℕ, zero, suc, List, [], ◌∷◌, ◌++◌, map, refl, sym, ap, ◌∙◌, subst, append_assoc}
use Rattle.std.specs.List.{flat_map, AllByRecursion}
use Rattle.sgf_core.specs.Tree.{Property, PropertyValue, Node, Forest, no_trees}
use Rattle.sgf_core.specs.Grammar.{HasValues, AreComplete, IsComplete}
use Rattle.sgf_core.specs.Marks.{node_marks, forest_marks}
use Rattle.sgf_core.specs.declared.marks.Mark.{Mark}
use Rattle.sgf_core.specs.declared.marks.Mark.TheVariants as mark
use Rattle.sgf_core.specs.declared.marks.Expects.{Expects}
use Rattle.sgf_core.specs.declared.marks.Expects.TheVariants as expects
use Rattle.sgf_core.proofs.Stages.{Stage, wrong, finished, inside, valued_stage, follow_all, follow_wrong, follow_finished}
use Rattle.sgf_core.proofs.Building.{Rest, before, build, tree_of, inner_marks, first_of_outer, rest_of_outer}

abbrev behind_end : Forest → List Mark
behind_end forest = mark.End ∷ forest_marks forest

-- the marks of what was built
abbrev spell : Rest → List Mark
spell rest = map mark.Prop rest.properties ++ (flat_map node_marks rest.nodes ++ (forest_marks rest.inner ++ flat_map behind_end rest.outer))

-- this many trees are open round the innermost, and nothing comes after the outermost
abbrev AreOuter : ℕ → List Forest → Type 0
AreOuter zero outer = outer ≡ no_trees ∷ []
AreOuter (suc depth) [] = ⊥
AreOuter (suc depth) (forest ∷ outer) = AreOuter depth outer

-- what was built fits the stage before it
abbrev Fits : Stage → Rest → Type 0
Fits wrong rest = ⊥
Fits finished rest = rest ≡ record { properties = []; nodes = []; inner = no_trees; outer = [] }
Fits (inside expects.Node depth) rest = (rest.properties ≡ []) × (rest.nodes ≢ []) × AreOuter depth rest.outer
Fits (inside expects.Any depth) rest = AreOuter depth rest.outer
Fits (inside expects.Tree depth) rest = (rest.properties ≡ []) × (rest.nodes ≡ []) × AreOuter depth rest.outer

record Built (stage : Stage) (marks : List Mark) : Type 0 where
  spelled : spell (build marks) ≡ marks
  fits : Fits stage (build marks)
  properties : HasValues (build marks).properties
  nodes : AllByRecursion HasValues (build marks).nodes
  inner : AreComplete (build marks).inner
  outer : AllByRecursion AreComplete (build marks).outer

built_nothing : Built finished []
built_nothing = record { spelled = refl; fits = refl; properties = tt; nodes = tt; inner = tt; outer = tt }

-- the semicolon in front of a node
built_node : (stage : Stage) (depth : ℕ) (marks : List Mark) → Built (inside expects.Any depth) marks → Fits stage (before mark.Node (build marks)) → Built stage (mark.Node ∷ marks)
built_node stage depth marks h fits =
    let rest = build marks in
    let later = forest_marks rest.inner ++ flat_map behind_end rest.outer in
    record {
      spelled = ap (λ (ms : List Mark). mark.Node ∷ ms) (append_assoc (map mark.Prop rest.properties) (flat_map node_marks rest.nodes) later ∙ h.spelled);
      fits = fits;
      properties = tt;
      nodes = (h.properties, h.nodes);
      inner = h.inner;
      outer = h.outer;
    }

built_property : (depth : ℕ) (property : Property) (marks : List Mark) → property.values ≢ [] → Built (inside expects.Any depth) marks → Built (inside expects.Any depth) (mark.Prop property ∷ marks)
built_property depth property marks some h =
    record {
      spelled = ap (λ (ms : List Mark). mark.Prop property ∷ ms) h.spelled;
      fits = h.fits;
      properties = (some, h.properties);
      nodes = h.nodes;
      inner = h.inner;
      outer = h.outer;
    }

-- a parenthesis in front of a tree
begins : (depth : ℕ) (properties : List Property) (nodes : List Node) (inner : Forest) (outer : List Forest) → properties ≡ [] → AreOuter (suc depth) outer → AllByRecursion AreComplete outer
    → (mark.Begin ∷ (flat_map node_marks nodes ++ forest_marks inner ++ mark.End ∷ forest_marks (first_of_outer outer)) ++ flat_map behind_end (rest_of_outer outer)
    ≡ mark.Begin ∷ spell (record { properties = properties; nodes = nodes; inner = inner; outer = outer }))
    × AreOuter depth (rest_of_outer outer) × AreComplete (first_of_outer outer) × AllByRecursion AreComplete (rest_of_outer outer)
begins depth properties nodes inner [] none h c = absurd h
begins depth properties nodes inner (forest ∷ outer) none h c = (
  ap (λ (ms : List Mark). mark.Begin ∷ ms) (
      append_assoc (flat_map node_marks nodes ++ forest_marks inner) (mark.End ∷ forest_marks forest) (flat_map behind_end outer)
      ∙ (append_assoc (flat_map node_marks nodes) (forest_marks inner) (mark.End ∷ (forest_marks forest ++ flat_map behind_end outer))
      ∙ ap (λ (ps : List Property). map mark.Prop ps ++ (flat_map node_marks nodes ++ (forest_marks inner ++ mark.End ∷ (forest_marks forest ++ flat_map behind_end outer)))) (sym none))
      ),
  h,
  c.0,
  c.1,
)

built_begin : (e : Expects) (depth : ℕ) (marks : List Mark) → Built (inside expects.Node (suc depth)) marks → (AreOuter depth (rest_of_outer (build marks).outer) → Fits (inside e depth) (before mark.Begin (build marks))) → Built (inside e depth) (mark.Begin ∷ marks)
built_begin e depth marks h fits =
    let rest = build marks in
    let found = begins depth rest.properties rest.nodes rest.inner rest.outer h.fits.0 h.fits.2 h.outer in
    record {
      spelled = found.0 ∙ ap (λ (ms : List Mark). mark.Begin ∷ ms) h.spelled;
      fits = fits found.1;
      properties = tt;
      nodes = tt;
      inner = (h.fits.1, h.nodes, h.inner, found.2);
      outer = found.3;
    }

-- a parenthesis after a tree in another
built_end : (e : Expects) (depth : ℕ) (marks : List Mark) → Built (inside expects.Tree depth) marks → (AreOuter (suc depth) ((build marks).inner ∷ (build marks).outer) → Fits (inside e (suc depth)) (before mark.End (build marks))) → Built (inside e (suc depth)) (mark.End ∷ marks)
built_end e depth marks h fits =
    let rest = build marks in
    let is : forest_marks rest.inner ++ flat_map behind_end rest.outer ≡ spell rest =
    ap (λ (ps : List Property). map mark.Prop ps ++ (forest_marks rest.inner ++ flat_map behind_end rest.outer)) (sym h.fits.0)
    ∙ ap (λ (ns : List Node). map mark.Prop rest.properties ++ (flat_map node_marks ns ++ (forest_marks rest.inner ++ flat_map behind_end rest.outer))) (sym h.fits.1) in
    record {
      spelled = ap (λ (ms : List Mark). mark.End ∷ ms) (is ∙ h.spelled);
      fits = fits h.fits.2;
      properties = tt;
      nodes = tt;
      inner = tt;
      outer = (h.inner, h.outer);
    }

-- and after the outermost
built_last : (e : Expects) → Fits (inside e 0) (before mark.End (build [])) → Built (inside e 0) (mark.End ∷ [])
built_last e fits = record { spelled = refl; fits = fits; properties = tt; nodes = tt; inner = tt; outer = (tt, tt) }

goes_on : (values : List PropertyValue) (depth : ℕ) (marks : List Mark) → follow_all (valued_stage values depth) marks ≡ finished → (values ≢ []) × (follow_all (inside expects.Any depth) marks ≡ finished)
goes_on [] depth marks h = let f : wrong ≡ finished = sym (follow_wrong marks) ∙ h in absurd cc
goes_on (value ∷ values) depth marks h = (λ none. cc, h)

built : (stage : Stage) (marks : List Mark) → follow_all stage marks ≡ finished → Built stage marks
built wrong marks h = let f : wrong ≡ finished = sym (follow_wrong marks) ∙ h in absurd cc
built finished marks h = subst (λ ms. Built finished ms) (sym (follow_finished marks h)) built_nothing
built (inside e depth) [] h = absurd cc
built (inside expects.Node depth) (mark.Node ∷ marks) h = let later = built (inside expects.Any depth) marks h in built_node (inside expects.Node depth) depth marks later (refl, λ none. cc, later.fits)
built (inside expects.Any depth) (mark.Node ∷ marks) h = let later = built (inside expects.Any depth) marks h in built_node (inside expects.Any depth) depth marks later later.fits
built (inside expects.Any depth) (mark.Prop property ∷ marks) h = let goes = goes_on property.values depth marks h in built_property depth property marks goes.0 (built (inside expects.Any depth) marks goes.1)
built (inside expects.Any depth) (mark.Begin ∷ marks) h = built_begin expects.Any depth marks (built (inside expects.Node (suc depth)) marks h) (λ o. o)
built (inside expects.Tree depth) (mark.Begin ∷ marks) h = built_begin expects.Tree depth marks (built (inside expects.Node (suc depth)) marks h) (λ o. (refl, refl, o))
built (inside expects.Any zero) (mark.End ∷ marks) h = subst (λ ms. Built (inside expects.Any 0) (mark.End ∷ ms)) (sym (follow_finished marks h)) (built_last expects.Any refl)
built (inside expects.Any (suc depth)) (mark.End ∷ marks) h = built_end expects.Any depth marks (built (inside expects.Tree depth) marks h) (λ o. o)
built (inside expects.Tree zero) (mark.End ∷ marks) h = subst (λ ms. Built (inside expects.Tree 0) (mark.End ∷ ms)) (sym (follow_finished marks h)) (built_last expects.Tree (refl, refl, refl))
built (inside expects.Tree (suc depth)) (mark.End ∷ marks) h = built_end expects.Tree depth marks (built (inside expects.Tree depth) marks h) (λ o. (refl, refl, o))
built (inside expects.Node depth) (mark.Begin ∷ marks) h = let f : wrong ≡ finished = sym (follow_wrong marks) ∙ h in absurd cc
built (inside expects.Node depth) (mark.Prop property ∷ marks) h = let f : wrong ≡ finished = sym (follow_wrong marks) ∙ h in absurd cc
built (inside expects.Node depth) (mark.End ∷ marks) h = let f : wrong ≡ finished = sym (follow_wrong marks) ∙ h in absurd cc
built (inside expects.Tree depth) (mark.Node ∷ marks) h = let f : wrong ≡ finished = sym (follow_wrong marks) ∙ h in absurd cc
built (inside expects.Tree depth) (mark.Prop property ∷ marks) h = let f : wrong ≡ finished = sym (follow_wrong marks) ∙ h in absurd cc

-- marks that lead to the end are a complete tree's
pub is_tree : (marks : List Mark) → follow_all (inside expects.Node 0) marks ≡ finished → (inner_marks (tree_of marks) ≡ marks) × IsComplete (tree_of marks)
is_tree marks h =
    let whole = built (inside expects.Node 0) marks h in
    let rest = build marks in
    let is : inner_marks (tree_of marks) ≡ spell rest =
    append_assoc (flat_map node_marks rest.nodes) (forest_marks rest.inner) (mark.End ∷ [])
    ∙ (ap (λ (outer : List Forest). flat_map node_marks rest.nodes ++ (forest_marks rest.inner ++ flat_map behind_end outer)) (sym whole.fits.2)
    ∙ ap (λ (ps : List Property). map mark.Prop ps ++ (flat_map node_marks rest.nodes ++ (forest_marks rest.inner ++ flat_map behind_end rest.outer))) (sym whole.fits.0)) in
    (is ∙ whole.spelled, (whole.fits.1, whole.nodes, whole.inner))
