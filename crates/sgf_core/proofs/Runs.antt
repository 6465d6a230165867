-- Which byte by byte state a mark leads to, and marks.
use Rattle.std.proofs.Common.{◌≡◌, ◌≢◌, ◌⊎◌, ℕ, zero, suc, ◌+◌, false, IsTrue, List, [], ◌∷◌, ◌++◌, length, map, refl, sym, ap, ◌∙◌, subst, inl, inr, append_assoc, arith, length-append}
use Rattle.std.specs.List.{list_all}
use Rattle.std.proofs.lemmas.List.{append-nil}
use Rattle.sgf_core.specs.Bytes.{is_letter, open_parenthesis, close_parenthesis, semicolon, open_bracket, close_bracket}
use Rattle.sgf_core.specs.Tree.{PropertyValue, Property}
use Rattle.sgf_core.specs.Grammar.{Part, opens, begins_node, has_value, closes, property_parts, is_value_text, IsPartText, WritesParts}
use Rattle.sgf_core.specs.Inner.Pieces.{mark_parts, parts_of, IsAllowed}
use Rattle.sgf_core.specs.declared.marks.Mark.{Mark}
use Rattle.sgf_core.specs.declared.marks.Mark.TheVariants as mark
use Rattle.sgf_core.specs.declared.marks.Expects.{Expects}
use Rattle.sgf_core.specs.declared.marks.Expects.TheVariants as expects
use Rattle.sgf_core.proofs.States.{Phase, begun, in_node, in_name, named, in_value, valued, after_tree, State, done, live, closed, step, run, run-append, IsBetween}
use Rattle.sgf_core.proofs.StateLemmas.{and-left, and-right, letter-facts, run-white, run-letters, run-name-white, run-text}
use Rattle.sgf_core.proofs.Stages.{Stage, wrong, finished, inside, ended, valued_stage, follow, follow_all, follow_wrong}

-- the parts of two lists, in two texts
pub parts-split : (at : ℕ) (parts more : List Part) (text : List ℕ) → WritesParts at (parts ++ more) text
    → (a : List ℕ) × (b : List ℕ) × (text ≡ a ++ b) × WritesParts at parts a × WritesParts (at + length a) more b
parts-split at [] more text h =
    let e : at ≡ at + length {A = ℕ} [] = omega arith in
    ([], text, refl, refl, subst (λ n. WritesParts n more text) e h)
parts-split at (part ∷ parts) more text (w, written, rest, is, hw, hp, hr) =
    let later = parts-split (at + length w + length written) parts more rest hr in
    let a = later.0 in
    let e : at + length w + length written + length a ≡ at + length (w ++ written ++ a) = simp length-append (omega arith) in (
      w ++ written ++ a,
      later.1,
      is ∙ (ap (λ (ys : List ℕ). w ++ written ++ ys) later.2 ∙ sym (append_assoc (w ++ written) a later.1)),
      (w, written, a, refl, hw, hp, later.3),
      subst (λ n. WritesParts n more later.1) e later.4,
    )

-- a sign after white bytes
sign-run : (phase : Phase) (depth at : ℕ) (part : Part) (byte : ℕ) (text : List ℕ) → IsBetween phase → ((n : ℕ) (ys : List ℕ) → IsPartText n part ys → ys ≡ byte ∷ []) → WritesParts at (part ∷ []) text → run (live phase depth) text ≡ step (live phase depth) byte
sign-run phase depth at part byte text between one (w, written, rest, is, hw, hp, hr) =
    let e : text ≡ w ++ byte ∷ [] = is ∙ (ap (λ (ys : List ℕ). w ++ written ++ ys) hr ∙ (append-nil (w ++ written) ∙ ap (λ (ys : List ℕ). w ++ ys) (one _ _ hp))) in
    ap (run (live phase depth)) e ∙ (run-append (live phase depth) w (byte ∷ []) ∙ ap (λ (s : State). step s byte) (run-white phase depth w between hw))

value-run : (state : State) (depth : ℕ) (bytes : List ℕ) → step state open_bracket ≡ live in_value depth → IsTrue (is_value_text bytes) → run state (open_bracket ∷ bytes ++ close_bracket ∷ []) ≡ live valued depth
value-run state depth bytes begins text =
    ap (λ (s : State). run s (bytes ++ close_bracket ∷ [])) begins
    ∙ (run-append (live in_value depth) bytes (close_bracket ∷ []) ∙ ap (λ (s : State). step s close_bracket) (run-text false depth bytes text))

-- values after a value
values-run : (depth at : ℕ) (values : List PropertyValue) (text : List ℕ) → WritesParts at (map has_value values) text → run (live valued depth) text ≡ live valued depth
values-run depth at [] text h = ap (run (live valued depth)) h
values-run depth at (value ∷ values) text (w, written, rest, is, hw, hp, hr) =
    ap (run (live valued depth)) (is ∙ append_assoc w written rest)
    ∙ (run-append (live valued depth) w (written ++ rest)
    ∙ (ap (λ (s : State). run s (written ++ rest)) (run-white valued depth w tt hw)
    ∙ (run-append (live valued depth) written rest
    ∙ (ap (λ (s : State). run s rest) (ap (run (live valued depth)) hp.0 ∙ value-run (live valued depth) depth value.bytes refl hp.1)
    ∙ values-run depth (at + length w + length written) values rest hr))))

-- values after a name
named-run : (depth at : ℕ) (values : List PropertyValue) (text : List ℕ) → values ≢ [] → WritesParts at (map has_value values) text → run (live in_name depth) text ≡ live valued depth
named-run depth at [] text some h = absurd (some refl)
named-run depth at (value ∷ values) text some (w, written, rest, is, hw, hp, hr) =
    ap (run (live in_name depth)) (is ∙ append_assoc w written rest)
    ∙ (run-append (live in_name depth) w (written ++ rest)
    ∙ (run-append (run (live in_name depth) w) written rest
    ∙ (ap (λ (s : State). run s rest) (ap (run (run (live in_name depth) w)) hp.0 ∙ first)
    ∙ values-run depth _ values rest hr)))
  where
    first : run (run (live in_name depth) w) (open_bracket ∷ value.bytes ++ close_bracket ∷ []) ≡ live valued depth
    first = elim (run-name-white depth w hw) [
      | inl e ↦ ap (λ (s : State). run s (open_bracket ∷ value.bytes ++ close_bracket ∷ [])) e ∙ value-run (live in_name depth) depth value.bytes refl hp.1
      | inr e ↦ ap (λ (s : State). run s (open_bracket ∷ value.bytes ++ close_bracket ∷ [])) e ∙ value-run (live named depth) depth value.bytes refl hp.1
    ]

-- a letter begins a name
letter-step : (phase : Phase) (depth byte : ℕ) → (phase ≡ in_node) ⊎ (phase ≡ valued) → IsTrue (is_letter byte) → step (live phase depth) byte ≡ live in_name depth
letter-step phase depth byte at_node letter =
    let facts = letter-facts byte letter in
    elim at_node [
      | inl e ↦ rw e (rw (facts.0, facts.1, letter) refl)
      | inr e ↦ rw e (rw (facts.0, facts.2, facts.1, letter) refl)
    ]

-- where a mark leads to
abbrev pub state_behind : Mark → ℕ → State
state_behind mark.Begin depth = live begun (suc depth)
state_behind mark.Node depth = live in_node depth
state_behind (mark.Prop property) depth = live valued depth
state_behind mark.End depth = closed depth

abbrev pub stage_behind : Mark → ℕ → Stage
stage_behind mark.Begin depth = inside expects.Node (suc depth)
stage_behind mark.Node depth = inside expects.Any depth
stage_behind (mark.Prop property) depth = inside expects.Any depth
stage_behind mark.End depth = ended depth

-- the bytes have led to what the marks have
abbrev pub Agrees : State → Stage → Type 0
Agrees state wrong = Unit {0}
Agrees state finished = state ≡ done
Agrees state (inside expects.Node depth) = state ≡ live begun depth
Agrees state (inside expects.Any depth) = (phase : Phase) × ((phase ≡ in_node) ⊎ (phase ≡ valued)) × (state ≡ live phase depth)
Agrees state (inside expects.Tree depth) = state ≡ live after_tree depth

pub agrees_behind : (m : Mark) (depth : ℕ) → Agrees (state_behind m depth) (stage_behind m depth)
agrees_behind mark.Begin depth = refl
agrees_behind mark.Node depth = (in_node, inl refl, refl)
agrees_behind (mark.Prop property) depth = (valued, inr refl, refl)
agrees_behind mark.End zero = refl
agrees_behind mark.End (suc depth) = refl

-- what is allowed goes on
pub follow-allowed : (e : Expects) (depth : ℕ) (m : Mark) → IsAllowed e m → follow (inside e depth) m ≡ stage_behind m depth
follow-allowed expects.Node depth mark.Node h = refl
follow-allowed expects.Any depth mark.Node h = refl
follow-allowed expects.Any depth mark.Begin h = refl
follow-allowed expects.Any depth mark.End h = refl
follow-allowed expects.Any depth (mark.Prop property) h = some property.values h
  where
    some : (values : List PropertyValue) → values ≢ [] → valued_stage values depth ≡ inside expects.Any depth
    some [] k = absurd (k refl)
    some (value ∷ values) k = refl
follow-allowed expects.Tree depth mark.Begin h = refl
follow-allowed expects.Tree depth mark.End h = refl
follow-allowed expects.Node depth mark.Begin h = absurd h
follow-allowed expects.Node depth mark.End h = absurd h
follow-allowed expects.Node depth (mark.Prop property) h = absurd h
follow-allowed expects.Tree depth mark.Node h = absurd h
follow-allowed expects.Tree depth (mark.Prop property) h = absurd h

-- and what isn't is wrong
pub allowed_or_wrong : (e : Expects) (depth : ℕ) (m : Mark) → IsAllowed e m ⊎ (follow (inside e depth) m ≡ wrong)
allowed_or_wrong expects.Node depth mark.Node = inl tt
allowed_or_wrong expects.Any depth mark.Node = inl tt
allowed_or_wrong expects.Any depth mark.Begin = inl tt
allowed_or_wrong expects.Any depth mark.End = inl tt
allowed_or_wrong expects.Any depth (mark.Prop property) = some property.values
  where
    some : (values : List PropertyValue) → (values ≢ []) ⊎ (valued_stage values depth ≡ wrong)
    some [] = inr refl
    some (value ∷ values) = inl (λ none. cc)
allowed_or_wrong expects.Tree depth mark.Begin = inl tt
allowed_or_wrong expects.Tree depth mark.End = inl tt
allowed_or_wrong expects.Node depth mark.Begin = inr refl
allowed_or_wrong expects.Node depth mark.End = inr refl
allowed_or_wrong expects.Node depth (mark.Prop property) = inr refl
allowed_or_wrong expects.Tree depth mark.Node = inr refl
allowed_or_wrong expects.Tree depth (mark.Prop property) = inr refl

at_node_between : (phase : Phase) → (phase ≡ in_node) ⊎ (phase ≡ valued) → IsBetween phase
at_node_between phase h = elim h [ inl e ↦ rw e tt | inr e ↦ rw e tt ]

-- in a node, each sign
node-sign : (phase : Phase) (depth at : ℕ) (m : Mark) (part : Part) (byte : ℕ) (text : List ℕ) → (phase ≡ in_node) ⊎ (phase ≡ valued) → ((n : ℕ) (ys : List ℕ) → IsPartText n part ys → ys ≡ byte ∷ []) → WritesParts at (part ∷ []) text
    → step (live in_node depth) byte ≡ state_behind m depth → step (live valued depth) byte ≡ state_behind m depth → run (live phase depth) text ≡ state_behind m depth
node-sign phase depth at m part byte text at_node one h a b =
    sign-run phase depth at part byte text (at_node_between phase at_node) one h ∙ elim at_node [ inl e ↦ rw e a | inr e ↦ rw e b ]

-- a name
pub name-run : (phase : Phase) (depth : ℕ) (identifier : List ℕ) → (phase ≡ in_node) ⊎ (phase ≡ valued) → identifier ≢ [] → IsTrue (list_all is_letter identifier) → run (live phase depth) identifier ≡ live in_name depth
name-run phase depth [] at_node none all = absurd (none refl)
name-run phase depth (byte ∷ identifier) at_node none all =
    ap (λ (s : State). run s identifier) (letter-step phase depth byte at_node (and-left (is_letter byte) (list_all is_letter identifier) all)) ∙ run-letters depth identifier (and-right (is_letter byte) (list_all is_letter identifier) all)

-- a property
property-run : (phase : Phase) (depth at : ℕ) (property : Property) (text : List ℕ) → (phase ≡ in_node) ⊎ (phase ≡ valued) → property.values ≢ [] → WritesParts at (property_parts property) text → run (live phase depth) text ≡ live valued depth
property-run phase depth at property text at_node some (w, written, rest, is, hw, hp, hr) =
    ap (run (live phase depth)) (is ∙ append_assoc w written rest)
    ∙ (run-append (live phase depth) w (written ++ rest)
    ∙ (ap (λ (s : State). run s (written ++ rest)) (run-white phase depth w (at_node_between phase at_node) hw)
    ∙ (run-append (live phase depth) written rest
    ∙ (ap (λ (s : State). run s rest) (ap (run (live phase depth)) hp.0 ∙ name-run phase depth property.identifier at_node hp.1 hp.2)
    ∙ named-run depth _ property.values rest some hr))))

-- a mark, from where it may come
pub mark-run : (e : Expects) (depth : ℕ) (m : Mark) (state : State) (at : ℕ) (text : List ℕ) → Agrees state (inside e depth) → IsAllowed e m → WritesParts at (mark_parts m) text → run state text ≡ state_behind m depth
mark-run expects.Node depth mark.Node state at text g allowed h = ap (λ (s : State). run s text) g ∙ sign-run begun depth at begins_node semicolon text tt (λ n ys k. k) h
mark-run expects.Any depth mark.Node state at text g allowed h = ap (λ (s : State). run s text) g.2 ∙ node-sign g.0 depth at mark.Node begins_node semicolon text g.1 (λ n ys k. k) h refl refl
mark-run expects.Any depth mark.Begin state at text g allowed h = ap (λ (s : State). run s text) g.2 ∙ node-sign g.0 depth at mark.Begin opens open_parenthesis text g.1 (λ n ys k. k) h refl refl
mark-run expects.Any depth mark.End state at text g allowed h = ap (λ (s : State). run s text) g.2 ∙ node-sign g.0 depth at mark.End closes close_parenthesis text g.1 (λ n ys k. k) h refl refl
mark-run expects.Any depth (mark.Prop property) state at text g allowed h = ap (λ (s : State). run s text) g.2 ∙ property-run g.0 depth at property text g.1 allowed h
mark-run expects.Tree depth mark.Begin state at text g allowed h = ap (λ (s : State). run s text) g ∙ sign-run after_tree depth at opens open_parenthesis text tt (λ n ys k. k) h
mark-run expects.Tree depth mark.End state at text g allowed h = ap (λ (s : State). run s text) g ∙ sign-run after_tree depth at closes close_parenthesis text tt (λ n ys k. k) h
mark-run expects.Node depth mark.Begin state at text g allowed h = absurd allowed
mark-run expects.Node depth mark.End state at text g allowed h = absurd allowed
mark-run expects.Node depth (mark.Prop property) state at text g allowed h = absurd allowed
mark-run expects.Tree depth mark.Node state at text g allowed h = absurd allowed
mark-run expects.Tree depth (mark.Prop property) state at text g allowed h = absurd allowed

-- marks, from any stage
pub marks-run : (stage : Stage) (marks : List Mark) (state : State) (at : ℕ) (text : List ℕ) → Agrees state stage → WritesParts at (parts_of marks) text → Agrees (run state text) (follow_all stage marks)
marks-run stage [] state at text g h = subst (λ ys. Agrees (run state ys) stage) (sym h) g
marks-run wrong (m ∷ marks) state at text g h = subst (λ x. Agrees (run state text) x) (sym (follow_wrong marks)) tt
marks-run finished (m ∷ marks) state at text g h = subst (λ x. Agrees (run state text) x) (sym (follow_wrong marks)) tt
marks-run (inside e depth) (m ∷ marks) state at text g h =
    elim (allowed_or_wrong e depth m) [
      | inl allowed ↦
          let parts = parts-split at (mark_parts m) (parts_of marks) text h in
          let now : run state parts.0 ≡ state_behind m depth = mark-run e depth m state at parts.0 g allowed parts.3 in
          let later = marks-run (stage_behind m depth) marks (state_behind m depth) (at + length parts.0) parts.1 (agrees_behind m depth) parts.4 in
          let is : run (state_behind m depth) parts.1 ≡ run state text = sym (ap (run state) parts.2 ∙ (run-append state parts.0 parts.1 ∙ ap (λ (s : State). run s parts.1) now)) in
          subst (λ s. Agrees s (follow_all (follow (inside e depth) m) marks)) is (subst (λ x. Agrees (run (state_behind m depth) parts.1) (follow_all x marks)) (sym (follow-allowed e depth m allowed)) later)
      | inr is ↦ subst (λ x. Agrees (run state text) x) (sym (ap (λ (x : Stage). follow_all x marks) is ∙ follow_wrong marks)) tt
    ]
