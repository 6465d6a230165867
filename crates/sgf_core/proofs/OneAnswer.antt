-- At most one tree is next, and it has at most one fault.
use Rattle.std.proofs.Common.{◌≡◌, ℕ, ◌+◌, ◌<◌, ◌≤◌, List, [], ◌∷◌, ◌++◌, length, drop, refl, sym, ap, ◌∙◌, subst, inl, inr, arith}
use Rattle.std.specs.Prelude.{slice_range, slice_index}
use Rattle.std.proofs.lemmas.Bool.{cases_lt}
use Rattle.sgf_core.specs.Bytes.{open_parenthesis}
use Rattle.sgf_core.specs.Tree.{GameTree}
use Rattle.sgf_core.specs.Grammar.{WritesTree, IsGoodFront, WritesParts}
use Rattle.sgf_core.specs.Next.{IsFirstBegin, IsNextTree, IsUnwritten, IsTruncated, TurnsBad, EndsWithIdentifier, IsNoValue, IsBadByte}
use Rattle.sgf_core.specs.Inner.Pieces.{parts_of}
use Rattle.sgf_core.specs.Reading.{IsFaultAt}
use Rattle.sgf_core.specs.declared.marks.Expects.TheVariants as expects
use Rattle.sgf_core.specs.declared.faults.SgfFault.{SgfFault}
use Rattle.sgf_core.specs.declared.faults.SgfFault.TheVariants as fault
use Rattle.sgf_core.proofs.Slices.{slice-drop, slice-join, slice-first}
use Rattle.sgf_core.proofs.States.{State, begun, dead, done, live, run, run-append, run-dead}
use Rattle.sgf_core.proofs.Stages.{inside}
use Rattle.sgf_core.proofs.Building.{inner_marks, tree_of, tree_of-inner_marks}
use Rattle.sgf_core.proofs.TreeMarks.{parts-inner_marks, follow-inner_marks}
use Rattle.sgf_core.proofs.Fronts.{tree-run, good_front}
use Rattle.sgf_core.proofs.OneReading.{same_marks}

-- one text writes one tree
pub same_tree : (at : ℕ) (tree other : GameTree) (text : List ℕ) → WritesTree at tree text → WritesTree at other text → tree ≡ other
same_tree at tree other text h k =
    let e : open_parenthesis ∷ h.inside ≡ open_parenthesis ∷ k.inside = sym h.begins ∙ k.begins in
    let inside_is : h.inside ≡ k.inside = cc in
    let a : WritesParts (at + 1) (parts_of (inner_marks tree)) k.inside = subst (λ ys. WritesParts (at + 1) (parts_of (inner_marks tree)) ys) inside_is (subst (λ ps. WritesParts (at + 1) ps h.inside) (sym (parts-inner_marks tree)) h.parts) in
    let b : WritesParts (at + 1) (parts_of (inner_marks other)) k.inside = subst (λ ps. WritesParts (at + 1) ps k.inside) (sym (parts-inner_marks other)) k.parts in
    let marks : inner_marks tree ≡ inner_marks other = same_marks (inner_marks tree) (inner_marks other) (inside expects.Node 0) (at + 1) k.inside (follow-inner_marks tree h.complete) (follow-inner_marks other k.complete) a b in
    sym (tree_of-inner_marks tree) ∙ (ap tree_of marks ∙ tree_of-inner_marks other)

-- no tree goes on after another's end
no_longer : (at : ℕ) (tree other : GameTree) (a b : List ℕ) → WritesTree at tree a → WritesTree at other (a ++ b) → b ≡ []
no_longer at tree other a [] h k = refl
no_longer at tree other a (byte ∷ b) h k =
    let e : open_parenthesis ∷ (h.inside ++ byte ∷ b) ≡ open_parenthesis ∷ k.inside = sym (ap (λ (ys : List ℕ). ys ++ byte ∷ b) h.begins) ∙ k.begins in
    let inside_is : k.inside ≡ h.inside ++ byte ∷ b = cc in
    let is : done ≡ dead = sym (tree-run at other (a ++ byte ∷ b) k)
    ∙ (ap (run (live begun 0)) inside_is ∙ (run-append (live begun 0) h.inside (byte ∷ b) ∙ (ap (λ (s : State). run s (byte ∷ b)) (tree-run at tree a h) ∙ run-dead b))) in
    absurd cc

-- the first place is one
pub same_begin : (bytes : List ℕ) (from at other : ℕ) → IsFirstBegin bytes from at → IsFirstBegin bytes from other → at ≡ other
same_begin bytes from at other h k =
    elim (cases_lt at other) [
      | inl less ↦ absurd (k.first at h.after less h.begins)
      | inr over ↦ elim (cases_lt other at) [
        | inl less ↦ absurd (h.first other k.after less k.begins)
        | inr under ↦ omega arith
      ]
    ]

end_not_before : (bytes : List ℕ) (at end other_end : ℕ) (tree other : GameTree) → at ≤ end → other_end ≤ length bytes → WritesTree at tree (slice_range bytes at end) → WritesTree at other (slice_range bytes at other_end) → end < other_end → ⊥
end_not_before bytes at end other_end tree other after within h k less =
    let is : slice_range bytes at other_end ≡ slice_range bytes at end ++ slice_range bytes end other_end = slice-join bytes at end other_end after (omega arith) in
    let none : slice_range bytes end other_end ≡ [] = no_longer at tree other (slice_range bytes at end) (slice_range bytes end other_end) h (subst (λ ys. WritesTree at other ys) is k) in
    let some : slice_range bytes end other_end ≡ slice_index bytes end ∷ slice_range bytes (end + 1) other_end = slice-first bytes end other_end less (omega arith) in
    cc

pub same_next : (bytes : List ℕ) (from at end : ℕ) (tree : GameTree) (other_at other_end : ℕ) (other : GameTree) → IsNextTree bytes from at end tree → IsNextTree bytes from other_at other_end other → (at ≡ other_at) × (end ≡ other_end) × (tree ≡ other)
same_next bytes from at end tree other_at other_end other h k =
    let begin : other_at ≡ at = same_begin bytes from other_at at k.first h.first in
    let other_writes : WritesTree at other (slice_range bytes at other_end) = subst (λ i. WritesTree i other (slice_range bytes i other_end)) begin k.writes in
    let a : at ≤ end = h.before_end in
    let b : at ≤ other_end = omega (arith, k.before_end) in
    let bounds : end ≡ other_end =
    elim (cases_lt end other_end) [
      | inl less ↦ absurd (end_not_before bytes at end other_end tree other a k.in_input h.writes other_writes less)
      | inr over ↦ elim (cases_lt other_end end) [
        | inl less ↦ absurd (end_not_before bytes at other_end end other tree b h.in_input other_writes h.writes less)
        | inr under ↦ omega arith
      ]
    ] in
    (sym begin, bounds, same_tree at tree other (slice_range bytes at end) h.writes (subst (λ i. WritesTree at other (slice_range bytes at i)) (sym bounds) other_writes))

-- ---- faults

-- a byte that turns a front bad is in no good front
bad_not_good : (bytes : List ℕ) (from at bad place : ℕ) → TurnsBad bytes from at bad → bad < place → IsGoodFront at (slice_range bytes at place) → ⊥
bad_not_good bytes from at bad place h less good =
    h.turns (good_front at (slice_range bytes at (bad + 1)) (slice_range bytes (bad + 1) place) (subst (λ ys. IsGoodFront at ys) (slice-join bytes at (bad + 1) place (omega (arith, h.after)) (omega arith)) good))

bad_not_whole : (bytes : List ℕ) (from at bad : ℕ) → TurnsBad bytes from at bad → IsGoodFront at (drop at bytes) → ⊥
bad_not_whole bytes from at bad h good =
    h.turns (good_front at (slice_range bytes at (bad + 1)) (drop (bad + 1) bytes) (subst (λ ys. IsGoodFront at ys) (slice-drop bytes at (bad + 1) (omega (arith, h.after))) good))

same_bad : (bytes : List ℕ) (from at bad other_at other : ℕ) → TurnsBad bytes from at bad → TurnsBad bytes from other_at other → (at ≡ other_at) × (bad ≡ other)
same_bad bytes from at bad other_at other h k =
    let begin : at ≡ other_at = same_begin bytes from at other_at h.begun.first k.begun.first in (
      begin,
      elim (cases_lt bad other) [
        | inl less ↦ absurd (bad_not_good bytes from at bad other h less (subst (λ i. IsGoodFront i (slice_range bytes i other)) (sym begin) k.good))
        | inr over ↦ elim (cases_lt other bad) [
          | inl less ↦ absurd (bad_not_good bytes from other_at other bad k less (subst (λ i. IsGoodFront i (slice_range bytes i bad)) begin h.good))
          | inr under ↦ omega arith
        ]
      ],
    )

not_truncated : (bytes : List ℕ) (from at other_at bad : ℕ) → IsTruncated bytes from at → TurnsBad bytes from other_at bad → ⊥
not_truncated bytes from at other_at bad h k =
    bad_not_whole bytes from other_at bad k (subst (λ i. IsGoodFront i (drop i bytes)) (same_begin bytes from at other_at h.begun.first k.begun.first) h.good)

not_both_kinds : (bytes : List ℕ) (from at bad other_at other : ℕ) → IsBadByte bytes from at bad → IsNoValue bytes from other_at other → ⊥
not_both_kinds bytes from at bad other_at other h k =
    let same = same_bad bytes from at bad other_at other h.0 k.0 in
    h.1 (subst (λ i. EndsWithIdentifier (slice_range bytes at i)) (sym same.1) (subst (λ i. EndsWithIdentifier (slice_range bytes i other)) (sym same.0) k.1))

pub same_fault : (bytes : List ℕ) (from : ℕ) (f g : SgfFault) → IsFaultAt bytes from f → IsFaultAt bytes from g → f ≡ g
same_fault bytes from (fault.Truncated at) (fault.Truncated other) h k = ap (λ (i : ℕ). fault.Truncated i) (same_begin bytes from at other h.begun.first k.begun.first)
same_fault bytes from (fault.BadByte bad) (fault.BadByte other) h k = ap (λ (i : ℕ). fault.BadByte i) (same_bad bytes from h.0 bad k.0 other h.1.0 k.1.0).1
same_fault bytes from (fault.NoValue bad) (fault.NoValue other) h k = ap (λ (i : ℕ). fault.NoValue i) (same_bad bytes from h.0 bad k.0 other h.1.0 k.1.0).1
same_fault bytes from (fault.Truncated at) (fault.BadByte bad) h k = absurd (not_truncated bytes from at k.0 bad h k.1.0)
same_fault bytes from (fault.Truncated at) (fault.NoValue bad) h k = absurd (not_truncated bytes from at k.0 bad h k.1.0)
same_fault bytes from (fault.BadByte bad) (fault.Truncated at) h k = absurd (not_truncated bytes from at h.0 bad k h.1.0)
same_fault bytes from (fault.NoValue bad) (fault.Truncated at) h k = absurd (not_truncated bytes from at h.0 bad k h.1.0)
same_fault bytes from (fault.BadByte bad) (fault.NoValue other) h k = absurd (not_both_kinds bytes from h.0 bad k.0 other h.1 k.1)
same_fault bytes from (fault.NoValue bad) (fault.BadByte other) h k = absurd (not_both_kinds bytes from k.0 other h.0 bad k.1 h.1)
same_fault bytes from fault.TooLarge g h k = absurd h
same_fault bytes from fault.Memory g h k = absurd h
same_fault bytes from (fault.Truncated at) fault.TooLarge h k = absurd k
same_fault bytes from (fault.Truncated at) fault.Memory h k = absurd k
same_fault bytes from (fault.BadByte at) fault.TooLarge h k = absurd k
same_fault bytes from (fault.BadByte at) fault.Memory h k = absurd k
same_fault bytes from (fault.NoValue at) fault.TooLarge h k = absurd k
same_fault bytes from (fault.NoValue at) fault.Memory h k = absurd k

-- where the next tree has a fault, no tree is next
unwritten : (bytes : List ℕ) (from at end other : ℕ) (tree : GameTree) → IsNextTree bytes from at end tree → IsUnwritten bytes from other → ⊥
unwritten bytes from at end other tree h k =
    k.no_tree end tree (subst (λ i. WritesTree i tree (slice_range bytes i end)) (same_begin bytes from at other h.first k.first) h.writes)

pub tree_not_fault : (bytes : List ℕ) (from at end : ℕ) (tree : GameTree) (f : SgfFault) → IsNextTree bytes from at end tree → IsFaultAt bytes from f → ⊥
tree_not_fault bytes from at end tree (fault.Truncated other) h k = unwritten bytes from at end other tree h k.begun
tree_not_fault bytes from at end tree (fault.BadByte bad) h k = unwritten bytes from at end k.0 tree h k.1.0.begun
tree_not_fault bytes from at end tree (fault.NoValue bad) h k = unwritten bytes from at end k.0 tree h k.1.0.begun
tree_not_fault bytes from at end tree fault.TooLarge h k = k
tree_not_fault bytes from at end tree fault.Memory h k = k
