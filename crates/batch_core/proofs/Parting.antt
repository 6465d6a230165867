-- No tree goes on over a closing parenthesis, so it parts the trees of two texts.
use Rattle.std.proofs.Common.{◌≡◌, ℕ, ◌+◌, ◌-◌, ◌≤◌, IsTrue, List, [], ◌∷◌, ◌++◌, length, take, drop, get_or, refl, sym, ap, ◌∙◌, subst, inl, inr, arith, append_assoc, length-append, length-drop}
use Rattle.std.specs.Prelude.{slice_range}
use Rattle.std.specs.List.{list_all}
use Rattle.std.proofs.lemmas.Bool.{cases_lt}
use Rattle.std.proofs.lemmas.List.{drop-drop, drop_at, drop-append-le, take-append-le}
use Rattle.sgf_core.specs.Bytes.{is_white, open_parenthesis, semicolon}
use Rattle.sgf_core.specs.Tree.{GameTree}
use Rattle.sgf_core.specs.Grammar.{WritesTree}
use Rattle.sgf_core.specs.Next.{BeginsTree, HasNoTree, IsNextTree}
use Rattle.sgf_core.proofs.StateLemmas.{and-left, and-right}
use Rattle.sgf_core.proofs.Begins.{NoneBefore}
use Rattle.batch_core.specs.Batch.{parting_byte}
use Rattle.batch_core.proofs.Shifted.{shifted_tree, tree_later}

-- ---- where trees begin

first_is : (a b : ℕ) (xs ys : List ℕ) → a ∷ xs ≡ b ∷ ys → a ≡ b
first_is a b xs ys e = ap (λ (bs : List ℕ). get_or bs 0 0) e

rest_is : (a b : ℕ) (xs ys : List ℕ) → a ∷ xs ≡ b ∷ ys → xs ≡ ys
rest_is a b xs ys e = ap (λ (bs : List ℕ). drop 1 bs) e

not_white : (byte : ℕ) → IsTrue (is_white byte) → parting_byte ≡ byte → ⊥
not_white byte white same = let other : IsTrue (is_white parting_byte) = subst (λ b. IsTrue (is_white b)) (sym same) white in cc

-- white bytes and a semicolon stand before the parting byte or after it
before_parting : (text rest white more : List ℕ) → IsTrue (list_all is_white white) → text ++ parting_byte ∷ rest ≡ white ++ semicolon ∷ more →
    (front : List ℕ) × (text ≡ white ++ semicolon ∷ front)
before_parting [] rest [] more h e = absurd (omega (arith, first_is parting_byte semicolon rest more e))
before_parting [] rest (byte ∷ white) more h e =
    absurd (not_white byte (and-left (is_white byte) (list_all is_white white) h) (first_is parting_byte byte rest (white ++ semicolon ∷ more) e))
before_parting (first ∷ text) rest [] more h e = (text, ap (λ b. b ∷ text) (first_is first semicolon (text ++ parting_byte ∷ rest) more e))
before_parting (first ∷ text) rest (byte ∷ white) more h e =
    let same = first_is first byte (text ++ parting_byte ∷ rest) (white ++ semicolon ∷ more) e in
    let behind = rest_is first byte (text ++ parting_byte ∷ rest) (white ++ semicolon ∷ more) e in
    let later = before_parting text rest white more (and-right (is_white byte) (list_all is_white white) h) behind in
    (later.0, ap (λ b. b ∷ text) same ∙ ap (λ bs. byte ∷ bs) later.1)

-- a tree that begins before the parting byte begins without it too
begins_before : (text rest : List ℕ) → BeginsTree (text ++ parting_byte ∷ rest) → BeginsTree text
begins_before [] rest h = absurd (omega (arith, first_is parting_byte open_parenthesis rest (h.white ++ semicolon ∷ h.rest) h.begins))
begins_before (byte ∷ text) rest h =
    let after = h.white ++ semicolon ∷ h.rest in
    let same = first_is byte open_parenthesis (text ++ parting_byte ∷ rest) after h.begins in
    let front = before_parting text rest h.white h.rest h.is_white (rest_is byte open_parenthesis (text ++ parting_byte ∷ rest) after h.begins) in
    record {
      white = h.white;
      rest = front.0;
      begins = ap (λ b. b ∷ text) same ∙ ap (λ bs. open_parenthesis ∷ bs) front.1;
      is_white = h.is_white;
    }

-- a tree that begins in a text begins with more after it too
begins_more : (text more : List ℕ) → BeginsTree text → BeginsTree (text ++ more)
begins_more text more h = record {
  white = h.white;
  rest = h.rest ++ more;
  begins = ap (λ bs. bs ++ more) h.begins ∙ ap (λ bs. open_parenthesis ∷ bs) (append_assoc h.white (semicolon ∷ h.rest) more);
  is_white = h.is_white;
}

-- two texts, with the parting byte between them
module _ (left right : List ℕ) where
  abbrev pub parted : List ℕ
  parted = left ++ parting_byte ∷ right

  -- where the second of them begins
  abbrev pub second : ℕ
  second = length left + 1

  drop_second : (at : ℕ) → drop (second + at) parted ≡ drop at right
  drop_second at =
      let here : drop (length left) parted ≡ parting_byte ∷ right = drop_at left (parting_byte ∷ right) (length left) refl in
      sym (drop-drop at second parted) ∙ ap (λ bs. drop at bs) (sym (drop-drop 1 (length left) parted) ∙ ap (λ bs. drop 1 bs) here)

  begins_left : (at : ℕ) → at ≤ length left → BeginsTree (drop at parted) → BeginsTree (drop at left)
  begins_left at within h = begins_before (drop at left) right (subst BeginsTree (drop-append-le at left (parting_byte ∷ right) within) h)

  -- no tree begins where the text before has none left
  pub none_left : (from : ℕ) → HasNoTree left from → NoneBefore parted from second
  none_left from none earlier after before h = none earlier after (begins_left earlier (omega arith) h)

  pub none_right : (from : ℕ) → HasNoTree right from → HasNoTree parted (second + from)
  none_right from none at after h =
      let is : second + (at - second) ≡ at = omega arith in
      none (at - second) (omega arith) (subst BeginsTree (ap (λ i. drop i parted) (sym is) ∙ drop_second (at - second)) h)

  -- ---- the next tree

  slice_left : (at end : ℕ) → at ≤ end → end ≤ length left → slice_range parted at end ≡ slice_range left at end
  slice_left at end after within =
      ap (λ bs. take (end - at) bs) (drop-append-le at left (parting_byte ∷ right) (omega arith))
      ∙ take-append-le (end - at) (drop at left) (parting_byte ∷ right) (omega (arith, length-drop at left))

  slice_right : (at end : ℕ) → slice_range parted (second + at) (second + end) ≡ slice_range right at end
  slice_right at end =
      let is : second + end - (second + at) ≡ end - at = omega arith in
      ap (λ n. take n (drop (second + at) parted)) is ∙ ap (λ bs. take (end - at) bs) (drop_second at)

  pub next_left : (from at end : ℕ) (tree : GameTree) → IsNextTree left from at end tree → IsNextTree parted from at end tree
  next_left from at end tree h =
      let after = h.before_end in
      let within = h.in_input in
      let long = length-append left (parting_byte ∷ right) in
      record {
        first = record {
          after = h.first.after;
          begins = subst BeginsTree (sym (drop-append-le at left (parting_byte ∷ right) (omega arith))) (begins_more (drop at left) (parting_byte ∷ right) h.first.begins);
          first = λ earlier from_there before begins. h.first.first earlier from_there before (begins_left earlier (omega arith) begins);
        };
        before_end = after;
        in_input = omega arith;
        writes = subst (WritesTree at tree) (sym (slice_left at end after within)) h.writes;
      }

  pub next_right : (from at end : ℕ) (tree : GameTree) → IsNextTree right from at end tree → IsNextTree parted (second + from) (second + at) (second + end) (shifted_tree second tree)
  next_right from at end tree h =
      let after = h.before_end in
      let within = h.in_input in
      let start = h.first.after in
      let long = length-append left (parting_byte ∷ right) in
      record {
        first = record {
          after = omega arith;
          begins = subst BeginsTree (sym (drop_second at)) h.first.begins;
          first = λ earlier from_there before begins.
              let is : second + (earlier - second) ≡ earlier = omega arith in
              h.first.first (earlier - second) (omega arith) (omega arith) (subst BeginsTree (ap (λ i. drop i parted) (sym is) ∙ drop_second (earlier - second)) begins);
        };
        before_end = omega arith;
        in_input = omega arith;
        writes = subst (WritesTree (second + at) (shifted_tree second tree)) (sym (slice_right at end)) (tree_later second at (second + at) tree (slice_range right at end) refl h.writes);
      }

-- the next tree is that from an earlier place on, where none begins between
pub next_from : (bytes : List ℕ) (from there at end : ℕ) (tree : GameTree) → there ≤ from → NoneBefore bytes there from → IsNextTree bytes from at end tree → IsNextTree bytes there at end tree
next_from bytes from there at end tree before none h =
    let start = h.first.after in
    record {
      first = record {
        after = omega arith;
        begins = h.first.begins;
        first = λ earlier after less begins. elim (cases_lt earlier from) [
          | inl low ↦ none earlier after low begins
          | inr high ↦ h.first.first earlier high less begins
        ];
      };
      before_end = h.before_end;
      in_input = h.in_input;
      writes = h.writes;
    }
