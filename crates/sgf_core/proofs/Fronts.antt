-- How far a tree has been read, and what comes of it.
use Rattle.std.proofs.Common.{◌≡◌, ℕ, zero, suc, ◌+◌, IsTrue, List, [], ◌∷◌, ◌++◌, length, refl, sym, ap, ◌∙◌, subst, inl, inr, append_assoc}
use Rattle.std.specs.List.{list_all}
use Rattle.std.proofs.lemmas.List.{append-nil}
use Rattle.std.proofs.lemmas.List.Concat.{flat_map-append}
use Rattle.sgf_core.specs.Bytes.{is_white, open_parenthesis, close_parenthesis, semicolon}
use Rattle.sgf_core.specs.Tree.{GameTree}
use Rattle.sgf_core.specs.Grammar.{Part, WritesParts, WritesTree, IsGoodFront, tree_parts}
use Rattle.sgf_core.specs.Marks.{marks_of}
use Rattle.sgf_core.specs.Inner.Pieces.{Wrote, mark_parts, parts_of, IsAllowed}
use Rattle.sgf_core.specs.declared.marks.Mark.{Mark}
use Rattle.sgf_core.specs.declared.marks.Mark.TheVariants as mark
use Rattle.sgf_core.specs.declared.marks.Expects.{Expects}
use Rattle.sgf_core.specs.declared.marks.Expects.TheVariants as expects
use Rattle.sgf_core.proofs.States.{Phase, begun, in_node, valued, after_tree, State, done, live, run, run-append}
use Rattle.sgf_core.proofs.Stages.{Stage, wrong, finished, inside, follow, follow_all, follow_all-append}
use Rattle.sgf_core.proofs.Building.{tree_of, inner_marks}
use Rattle.sgf_core.proofs.TreeMarks.{parts-inner_marks, follow-inner_marks}
use Rattle.sgf_core.proofs.Built.{is_tree}
use Rattle.sgf_core.proofs.StateLemmas.{run-white}
use Rattle.sgf_core.proofs.Runs.{Agrees, stage_behind, follow-allowed, marks-run}
use Rattle.sgf_core.proofs.Writing.{wrote-plain, wrote-then, wrote-wrote, mark-first}

-- ---- trees and their bytes

-- marks that lead to the end, and the bytes that write them, are a tree's
pub writes_tree : (at : ℕ) (marks : List Mark) (text : List ℕ) → follow_all (inside expects.Node 0) marks ≡ finished → WritesParts (at + 1) (parts_of marks) text
    → (tree : GameTree) × WritesTree at tree (open_parenthesis ∷ text) × (mark.Begin ∷ marks ≡ marks_of tree)
writes_tree at marks text h k =
    let found = is_tree marks h in
    let tree = tree_of marks in
    let parts : parts_of marks ≡ tree_parts tree = ap (λ (ms : List Mark). parts_of ms) (sym found.0) ∙ parts-inner_marks tree in (
      tree,
      record { complete = found.1; inside = text; begins = refl; parts = subst (λ ps. WritesParts (at + 1) ps text) parts k },
      ap (λ (ms : List Mark). mark.Begin ∷ ms) (sym found.0),
    )

-- a tree's bytes lead to the end
pub tree-run : (at : ℕ) (tree : GameTree) (text : List ℕ) (h : WritesTree at tree text) → run (live begun 0) h.inside ≡ done
tree-run at tree text h =
    let agrees = marks-run (inside expects.Node 0) (inner_marks tree) (live begun 0) (at + 1) h.inside refl (subst (λ ps. WritesParts (at + 1) ps h.inside) (sym (parts-inner_marks tree)) h.parts) in
    subst (λ s. Agrees (run (live begun 0) h.inside) s) (follow-inner_marks tree h.complete) agrees

-- ---- a good front

pub good_front : (at : ℕ) (a b : List ℕ) → IsGoodFront at (a ++ b) → IsGoodFront at a
good_front at a b h = record { continuation = b ++ h.continuation; tree = h.tree; writes = subst (λ ys. WritesTree at h.tree ys) (append_assoc a b h.continuation) h.writes }

-- how far a tree has been read: its marks after the first and the bytes after the first parenthesis
pub record IsFront (at : ℕ) (marks : List Mark) (expected : Expects) (depth : ℕ) (text : List ℕ) : Type 0 where
  pub wrote : Wrote (at + 1) (parts_of marks) text
  pub follows : follow_all (inside expects.Node 0) marks ≡ inside expected depth

parts_of-push : (marks : List Mark) (m : Mark) → parts_of (marks ++ m ∷ []) ≡ parts_of marks ++ mark_parts m
parts_of-push marks m = flat_map-append mark_parts marks (m ∷ []) ∙ ap (λ (ps : List Part). parts_of marks ++ ps) (append-nil (mark_parts m))

pub follow-push : (marks : List Mark) (m : Mark) (e : Expects) (depth : ℕ) → follow_all (inside expects.Node 0) marks ≡ inside e depth → IsAllowed e m → follow_all (inside expects.Node 0) (marks ++ m ∷ []) ≡ stage_behind m depth
follow-push marks m e depth h allowed = follow_all-append (inside expects.Node 0) marks (m ∷ []) ∙ (ap (λ (s : Stage). follow s m) h ∙ follow-allowed e depth m allowed)

-- one more mark
wrote-push : (at : ℕ) (marks : List Mark) (m : Mark) (a b : List ℕ) → Wrote at (parts_of marks) a → Wrote (at + length a) (mark_parts m) b → Wrote at (parts_of (marks ++ m ∷ [])) (a ++ b)
wrote-push at marks m a b h k =
    let first = mark-first m in
    subst (λ ps. Wrote at ps (a ++ b)) (ap (λ (ps : List Part). parts_of marks ++ ps) (sym first.2) ∙ sym (parts_of-push marks m))
    (wrote-wrote at (parts_of marks) first.0 first.1 a b h (subst (λ ps. Wrote (at + length a) ps b) first.2 k))

pub writes-push : (at : ℕ) (marks : List Mark) (m : Mark) (a b : List ℕ) → Wrote at (parts_of marks) a → WritesParts (at + length a) (mark_parts m) b → WritesParts at (parts_of (marks ++ m ∷ [])) (a ++ b)
writes-push at marks m a b h k =
    let first = mark-first m in
    subst (λ ps. WritesParts at ps (a ++ b)) (ap (λ (ps : List Part). parts_of marks ++ ps) (sym first.2) ∙ sym (parts_of-push marks m))
    (wrote-then at (parts_of marks) first.0 first.1 a b h (subst (λ ps. WritesParts (at + length a) ps b) first.2 k))

end-parts : (at : ℕ) → WritesParts at (mark_parts mark.End) (close_parenthesis ∷ [])
end-parts at = ([], close_parenthesis ∷ [], [], refl, refl, refl, refl)

-- where the tree may end, closing parentheses make a tree of it
front-ends : (depth at : ℕ) (marks : List Mark) (e : Expects) (text : List ℕ) → IsAllowed e mark.End → IsFront at marks e depth text → IsGoodFront at (open_parenthesis ∷ text)
front-ends zero at marks e text allowed h =
    let found = writes_tree at (marks ++ mark.End ∷ []) (text ++ close_parenthesis ∷ []) (follow-push marks mark.End e zero h.follows allowed) (writes-push (at + 1) marks mark.End text (close_parenthesis ∷ []) h.wrote (end-parts (at + 1 + length text))) in
    record { continuation = close_parenthesis ∷ []; tree = found.0; writes = found.1 }
front-ends (suc depth) at marks e text allowed h =
    good_front at (open_parenthesis ∷ text) (close_parenthesis ∷ []) (
    front-ends depth at (marks ++ mark.End ∷ []) expects.Tree (text ++ close_parenthesis ∷ []) tt (
    record {
      wrote = wrote-push (at + 1) marks mark.End text (close_parenthesis ∷ []) h.wrote (wrote-plain (at + 1 + length text) (mark_parts mark.End) (close_parenthesis ∷ []) (end-parts (at + 1 + length text)));
      follows = follow-push marks mark.End e (suc depth) h.follows allowed;
    }
    )
    )

node-parts : (at : ℕ) → WritesParts at (mark_parts mark.Node) (semicolon ∷ [])
node-parts at = ([], semicolon ∷ [], [], refl, refl, refl, refl)

-- how far a tree has been read is good
pub front-good : (at : ℕ) (marks : List Mark) (e : Expects) (depth : ℕ) (text : List ℕ) → IsFront at marks e depth text → IsGoodFront at (open_parenthesis ∷ text)
front-good at marks expects.Any depth text h = front-ends depth at marks expects.Any text tt h
front-good at marks expects.Tree depth text h = front-ends depth at marks expects.Tree text tt h
front-good at marks expects.Node depth text h =
    good_front at (open_parenthesis ∷ text) (semicolon ∷ []) (
    front-ends depth at (marks ++ mark.Node ∷ []) expects.Any (text ++ semicolon ∷ []) tt (
    record {
      wrote = wrote-push (at + 1) marks mark.Node text (semicolon ∷ []) h.wrote (wrote-plain (at + 1 + length text) (mark_parts mark.Node) (semicolon ∷ []) (node-parts (at + 1 + length text)));
      follows = follow-push marks mark.Node expects.Node depth h.follows tt;
    }
    )
    )

-- with a further mark too
stage-good : (at : ℕ) (marks : List Mark) (stage : Stage) (text : List ℕ) → (stage ≡ wrong → ⊥) → follow_all (inside expects.Node 0) marks ≡ stage → WritesParts (at + 1) (parts_of marks) text → IsGoodFront at (open_parenthesis ∷ text)
stage-good at marks wrong text right h k = absurd (right refl)
stage-good at marks finished text right h k =
    let found = writes_tree at marks text h k in
    record { continuation = []; tree = found.0; writes = subst (λ ys. WritesTree at found.0 (open_parenthesis ∷ ys)) (sym (append-nil text)) found.1 }
stage-good at marks (inside e depth) text right h k = front-good at marks e depth text (record { wrote = wrote-plain (at + 1) (parts_of marks) text k; follows = h })

stage-right : (m : Mark) (depth : ℕ) → stage_behind m depth ≡ wrong → ⊥
stage-right mark.Begin depth h = cc
stage-right mark.Node depth h = cc
stage-right (mark.Prop property) depth h = cc
stage-right mark.End zero h = cc
stage-right mark.End (suc depth) h = cc

pub front-more : (at : ℕ) (marks : List Mark) (e : Expects) (depth : ℕ) (text : List ℕ) (m : Mark) (more : List ℕ) → IsFront at marks e depth text → IsAllowed e m → WritesParts (at + 1 + length text) (mark_parts m) more → IsGoodFront at (open_parenthesis ∷ (text ++ more))
front-more at marks e depth text m more h allowed k =
    stage-good at (marks ++ m ∷ []) (stage_behind m depth) (text ++ more) (stage-right m depth) (follow-push marks m e depth h.follows allowed) (writes-push (at + 1) marks m text more h.wrote k)

-- ---- what the bytes have led to

-- white bytes after what has been read
pub agrees-white : (state : State) (e : Expects) (depth : ℕ) (white : List ℕ) → Agrees state (inside e depth) → IsTrue (list_all is_white white) → run state white ≡ state
agrees-white state expects.Node depth white g h = ap (λ (s : State). run s white) g ∙ (run-white begun depth white tt h ∙ sym g)
agrees-white state expects.Any depth white g h = ap (λ (s : State). run s white) g.2 ∙ (elim g.1 [ inl e ↦ rw e (run-white in_node depth white tt h) | inr e ↦ rw e (run-white valued depth white tt h) ] ∙ sym g.2)
agrees-white state expects.Tree depth white g h = ap (λ (s : State). run s white) g ∙ (run-white after_tree depth white tt h ∙ sym g)

pub front-agrees : (at : ℕ) (marks : List Mark) (e : Expects) (depth : ℕ) (text : List ℕ) → IsFront at marks e depth text → Agrees (run (live begun 0) text) (inside e depth)
front-agrees at marks e depth text h =
    let reached = marks-run (inside expects.Node 0) marks (live begun 0) (at + 1) h.wrote.body refl h.wrote.writes in
    let before : Agrees (run (live begun 0) h.wrote.body) (inside e depth) = subst (λ s. Agrees (run (live begun 0) h.wrote.body) s) h.follows reached in
    let is : run (live begun 0) h.wrote.body ≡ run (live begun 0) text =
    sym (ap (run (live begun 0)) h.wrote.is ∙ (run-append (live begun 0) h.wrote.body h.wrote.white ∙ agrees-white (run (live begun 0) h.wrote.body) e depth h.wrote.white before h.wrote.ends_white)) in
    subst (λ s. Agrees s (inside e depth)) is before

pub agrees-live : (state : State) (e : Expects) (depth : ℕ) → Agrees state (inside e depth) → (phase : Phase) × (state ≡ live phase depth)
agrees-live state expects.Node depth g = (begun, g)
agrees-live state expects.Any depth g = (g.0, g.2)
agrees-live state expects.Tree depth g = (after_tree, g)

-- one more mark
pub front-push : (at : ℕ) (marks : List Mark) (e : Expects) (depth : ℕ) (text : List ℕ) (m : Mark) (next : Expects) (deep : ℕ) (more : List ℕ) → IsFront at marks e depth text → IsAllowed e m → stage_behind m depth ≡ inside next deep → Wrote (at + 1 + length text) (mark_parts m) more → IsFront at (marks ++ m ∷ []) next deep (text ++ more)
front-push at marks e depth text m next deep more h allowed is k =
    record { wrote = wrote-push (at + 1) marks m text more h.wrote k; follows = follow-push marks m e depth h.follows allowed ∙ is }
