-- Where no tree is: the bytes have led to less than a tree, and end, or the next of them leads nowhere.
use Rattle.std.proofs.Common.{◌≡◌, ◌⊎◌, ℕ, ◌+◌, ◌-◌, ◌<◌, false, IsTrue, List, [], ◌∷◌, ◌++◌, length, drop, refl, sym, ap, ◌∙◌, subst, inl, inr, append_assoc, arith}
use Rattle.std.specs.Prelude.{slice_range, slice_index, ◌==◌}
use Rattle.std.specs.List.{list_all}
use Rattle.std.proofs.lemmas.List.{take-append-drop, drop_more}
use Rattle.std.proofs.lemmas.Bool.Decides.{nat_tests}
use Rattle.std.proofs.lemmas.List.Edits.{between_more}
use Rattle.sgf_core.specs.Bytes.{is_white, is_letter, open_parenthesis, close_bracket, backslash}
use Rattle.sgf_core.specs.Tree.{GameTree}
use Rattle.sgf_core.specs.Grammar.{WritesTree, IsGoodFront}
use Rattle.sgf_core.specs.Next.{IsFirstBegin, IsTruncated, TurnsBad, EndsWithIdentifier}
use Rattle.sgf_core.proofs.Slices.{slice-drop, slice-first}
use Rattle.sgf_core.proofs.States.{Phase, begun, in_node, in_name, named, in_value, escaped, valued, after_tree, State, dead, done, live, step, run, run-append, run-dead}
use Rattle.sgf_core.proofs.StateLemmas.{and-left, and-right, letter-facts}
use Rattle.sgf_core.proofs.Fronts.{tree-run}

-- two fronts of one list
prefixes : (a r x : List ℕ) (b : ℕ) (s : List ℕ) → a ++ r ≡ x ++ b ∷ s → ((t : List ℕ) × (x ≡ a ++ t)) ⊎ ((t : List ℕ) × (a ≡ x ++ b ∷ t))
prefixes [] r x b s h = inl (x, refl)
prefixes (c ∷ a) r [] b s h = let first : c ≡ b = cc in inr (a, ap (λ (d : ℕ). d ∷ a) first)
prefixes (c ∷ a) r (d ∷ x) b s h =
    let first : c ≡ d = cc in
    let rest : a ++ r ≡ x ++ b ∷ s = cc in
    elim (prefixes a r x b s rest) [
      | inl p ↦ inl (p.0, ap (λ (ys : List ℕ). d ∷ ys) p.1 ∙ ap (λ (e : ℕ). e ∷ (a ++ p.0)) (sym first))
      | inr p ↦ inr (p.0, ap (λ (ys : List ℕ). c ∷ ys) p.1 ∙ ap (λ (e : ℕ). e ∷ (x ++ b ∷ p.0)) first)
    ]

-- less than a tree
pub record IsLive (state : State) : Type 0 where
  pub phase : Phase
  pub depth : ℕ
  pub is : state ≡ live phase depth

pub live-not_dead : (state : State) → IsLive state → state ≡ dead → ⊥
live-not_dead state h e = let f : dead ≡ live h.phase h.depth = sym e ∙ h.is in cc

-- what follows an end is never live
done-not_live : (text : List ℕ) → IsLive (run done text) → ⊥
done-not_live [] h = let f : done ≡ live h.phase h.depth = h.is in cc
done-not_live (byte ∷ text) h = live-not_dead (run dead text) h (run-dead text)

-- a tree that a part of the bytes writes ends after the first parenthesis
tree_inside : (bytes : List ℕ) (at end : ℕ) (tree : GameTree) → at < length bytes → WritesTree at tree (slice_range bytes at end)
    → (inside : List ℕ) × (rest : List ℕ) × (drop (at + 1) bytes ≡ inside ++ rest) × (run (live begun 0) inside ≡ done)
tree_inside bytes at end tree within h =
    let rest = drop (end - at) (drop at bytes) in
    let e : slice_index bytes at ∷ drop (at + 1) bytes ≡ open_parenthesis ∷ (h.inside ++ rest) =
    sym (drop_more bytes at 0 within) ∙ (sym (take-append-drop (end - at) (drop at bytes)) ∙ ap (λ (ys : List ℕ). ys ++ rest) h.begins) in
    (h.inside, rest, cc, tree-run at tree (slice_range bytes at end) h)

-- the input ends within the tree
pub truncated : (bytes : List ℕ) (from at : ℕ) → at < length bytes → IsFirstBegin bytes from at → IsLive (run (live begun 0) (drop (at + 1) bytes)) → IsGoodFront at (drop at bytes) → IsTruncated bytes from at
truncated bytes from at within first alive good =
    record {
      begun = record {
        first = first;
        no_tree = λ end tree writes.
            let t = tree_inside bytes at end tree within writes in
            let is : run (live begun 0) (drop (at + 1) bytes) ≡ run done t.1 = ap (run (live begun 0)) t.2 ∙ (run-append (live begun 0) t.0 t.1 ∙ ap (λ (s : State). run s t.1) t.3) in
            done-not_live t.1 (subst (λ s. IsLive s) is alive);
      };
      good = good;
    }

-- a byte turns it bad
pub turns_bad : (bytes : List ℕ) (from at bad : ℕ) → at < bad → bad < length bytes → slice_index bytes at ≡ open_parenthesis → IsFirstBegin bytes from at → IsLive (run (live begun 0) (slice_range bytes (at + 1) bad))
    → step (run (live begun 0) (slice_range bytes (at + 1) bad)) (slice_index bytes bad) ≡ dead → IsGoodFront at (open_parenthesis ∷ slice_range bytes (at + 1) bad) → TurnsBad bytes from at bad
turns_bad bytes from at bad after within opens_at first alive stops good =
    let x = slice_range bytes (at + 1) bad in
    let b = slice_index bytes bad in
    let front : slice_range bytes at bad ≡ open_parenthesis ∷ x = slice-first bytes at bad after (omega arith) ∙ ap (λ (c : ℕ). c ∷ x) opens_at in
    let more : slice_range bytes at (bad + 1) ≡ open_parenthesis ∷ (x ++ b ∷ []) = between_more bytes at bad 0 (omega arith) within ∙ ap (λ (ys : List ℕ). ys ++ b ∷ []) front in
    let all : drop (at + 1) bytes ≡ x ++ b ∷ drop (bad + 1) bytes = slice-drop bytes (at + 1) bad (omega arith) ∙ ap (λ (ys : List ℕ). x ++ ys) (drop_more bytes bad 0 within) in
    let kills : (ys : List ℕ) → run (live begun 0) (x ++ b ∷ ys) ≡ dead = λ ys. run-append (live begun 0) x (b ∷ ys) ∙ (ap (λ (s : State). run s ys) stops ∙ run-dead ys) in
    record {
      begun = record {
        first = first;
        no_tree = λ end tree writes.
            let t = tree_inside bytes at end tree (omega arith) writes in
            elim (prefixes t.0 t.1 x b (drop (bad + 1) bytes) (sym t.2 ∙ all)) [
              | inl p ↦
                  let is : run (live begun 0) x ≡ run done p.0 = ap (run (live begun 0)) p.1 ∙ (run-append (live begun 0) t.0 p.0 ∙ ap (λ (s : State). run s p.0) t.3) in
                  done-not_live p.0 (subst (λ s. IsLive s) is alive)
              | inr p ↦ let is : done ≡ dead = sym t.3 ∙ (ap (run (live begun 0)) p.1 ∙ kills p.0) in cc
            ];
      };
      after = omega arith;
      in_input = within;
      good = subst (λ ys. IsGoodFront at ys) (sym front) good;
      turns = λ h.
          let e : open_parenthesis ∷ (x ++ b ∷ h.continuation) ≡ open_parenthesis ∷ h.writes.inside =
          ap (λ (ys : List ℕ). open_parenthesis ∷ ys) (sym (append_assoc x (b ∷ []) h.continuation)) ∙ (ap (λ (ys : List ℕ). ys ++ h.continuation) (sym more) ∙ h.writes.begins) in
          let inside : h.writes.inside ≡ x ++ b ∷ h.continuation = cc in
          let is : done ≡ dead = sym (tree-run at h.tree (slice_range bytes at (bad + 1) ++ h.continuation) h.writes) ∙ (ap (run (live begun 0)) inside ∙ kills h.continuation) in
          cc;
    }

-- ---- an identifier and white bytes at the end

-- neither within an identifier or a value, nor after an identifier
abbrev pub IsBoundary : State → Type 0
IsBoundary dead = ⊥
IsBoundary done = ⊥
IsBoundary (live begun depth) = Unit {0}
IsBoundary (live in_node depth) = Unit {0}
IsBoundary (live in_name depth) = ⊥
IsBoundary (live named depth) = ⊥
IsBoundary (live in_value depth) = ⊥
IsBoundary (live escaped depth) = ⊥
IsBoundary (live valued depth) = Unit {0}
IsBoundary (live after_tree depth) = Unit {0}

-- elsewhere, or no front of a tree
abbrev IsElsewhere : State → Type 0
IsElsewhere dead = Unit {0}
IsElsewhere done = Unit {0}
IsElsewhere (live begun depth) = ⊥
IsElsewhere (live in_node depth) = ⊥
IsElsewhere (live in_name depth) = Unit {0}
IsElsewhere (live named depth) = Unit {0}
IsElsewhere (live in_value depth) = Unit {0}
IsElsewhere (live escaped depth) = Unit {0}
IsElsewhere (live valued depth) = ⊥
IsElsewhere (live after_tree depth) = ⊥

not_both : (state : State) → IsElsewhere state → IsBoundary state → ⊥
not_both dead a b = b
not_both done a b = b
not_both (live begun depth) a b = a
not_both (live in_node depth) a b = a
not_both (live in_name depth) a b = b
not_both (live named depth) a b = b
not_both (live in_value depth) a b = b
not_both (live escaped depth) a b = b
not_both (live valued depth) a b = a
not_both (live after_tree depth) a b = a

white-facts : (byte : ℕ) → IsTrue (is_white byte) → (is_letter byte ≡ false) × ((byte == close_bracket) ≡ false) × ((byte == backslash) ≡ false)
white-facts byte h = grind (arith, nat_tests)

letter-elsewhere : (state : State) (byte : ℕ) → IsTrue (is_letter byte) → IsElsewhere (step state byte)
letter-elsewhere dead byte h = tt
letter-elsewhere done byte h = tt
letter-elsewhere (live begun depth) byte h = let f = letter-facts byte h in rw (f.0, f.1) tt
letter-elsewhere (live in_node depth) byte h = let f = letter-facts byte h in rw (f.0, f.1, h) tt
letter-elsewhere (live in_name depth) byte h = rw h tt
letter-elsewhere (live named depth) byte h = let f = letter-facts byte h in rw (f.0, f.2) tt
letter-elsewhere (live in_value depth) byte h = let f = letter-facts byte h in rw (f.3, f.4) tt
letter-elsewhere (live escaped depth) byte h = tt
letter-elsewhere (live valued depth) byte h = let f = letter-facts byte h in rw (f.0, f.2, f.1, h) tt
letter-elsewhere (live after_tree depth) byte h = let f = letter-facts byte h in rw (f.0, f.5, f.6) tt

white-elsewhere : (state : State) (byte : ℕ) → IsElsewhere state → IsTrue (is_white byte) → IsElsewhere (step state byte)
white-elsewhere dead byte a h = tt
white-elsewhere done byte a h = tt
white-elsewhere (live begun depth) byte a h = absurd a
white-elsewhere (live in_node depth) byte a h = absurd a
white-elsewhere (live in_name depth) byte a h = let f = white-facts byte h in rw (f.0, h) tt
white-elsewhere (live named depth) byte a h = rw h tt
white-elsewhere (live in_value depth) byte a h = let f = white-facts byte h in rw (f.1, f.2) tt
white-elsewhere (live escaped depth) byte a h = tt
white-elsewhere (live valued depth) byte a h = absurd a
white-elsewhere (live after_tree depth) byte a h = absurd a

all-elsewhere : (state : State) (white : List ℕ) → IsElsewhere state → IsTrue (list_all is_white white) → IsElsewhere (run state white)
all-elsewhere state [] a h = a
all-elsewhere state (byte ∷ white) a h = all-elsewhere (step state byte) white (white-elsewhere state byte a (and-left (is_white byte) (list_all is_white white) h)) (and-right (is_white byte) (list_all is_white white) h)

-- after an identifier and white bytes is no boundary
pub no_identifier : (text : List ℕ) → IsBoundary (run (live begun 0) text) → EndsWithIdentifier (open_parenthesis ∷ text) → ⊥
no_identifier text boundary h = go h.before h.letter h.white h.ends h.is_letter h.is_white
  where
    go : (before : List ℕ) (letter : ℕ) (white : List ℕ) → open_parenthesis ∷ text ≡ before ++ letter ∷ white → IsTrue (is_letter letter) → IsTrue (list_all is_white white) → ⊥
    go [] letter white e l w =
        let same : open_parenthesis ≡ letter = cc in
        let f : IsTrue (is_letter open_parenthesis) = subst (λ b. IsTrue (is_letter b)) (sym same) l in
        cc
    go (c ∷ before) letter white e l w =
        let same : text ≡ before ++ letter ∷ white = cc in
        let is : run (live begun 0) text ≡ run (step (run (live begun 0) before) letter) white = ap (run (live begun 0)) same ∙ run-append (live begun 0) before (letter ∷ white) in
        not_both (run (live begun 0) text)
        (subst (λ s. IsElsewhere s) (sym is) (all-elsewhere (step (run (live begun 0) before) letter) white (letter-elsewhere (run (live begun 0) before) letter l) w)) boundary
