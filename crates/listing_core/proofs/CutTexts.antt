-- The text of trees that are cut out, read back.
use Rattle.std.proofs.Common.{◌≡◌, ◌≢◌, ℕ, zero, suc, ◌+◌, ◌-◌, ◌<◌, Bool, true, false, cond, IsTrue, List, [], ◌∷◌, ◌++◌, length, take, drop, refl, ap, ap₂, sym, subst, ◌∙◌, arith, append_assoc, length-append, drop_of_length-le}
use Rattle.std.specs.Prelude.{slice_range}
use Rattle.std.specs.List.{flat_map, list_all}
use Rattle.std.proofs.Math.Seq.{drop-append_seam, drop-append-add, take-append_seam}
use Rattle.std.proofs.lemmas.List.{append-nil}
use Rattle.sgf_core.specs.Bytes.{is_white}
use Rattle.sgf_core.specs.Tree.{Node, GameTree, main_line_of}
use Rattle.sgf_core.specs.Grammar.{Part, closes, node_parts, forest_parts, WritesTree, WritesParts, tree_parts}
use Rattle.sgf_core.specs.Next.{BeginsTree, HasNoTree, IsNextTree}
use Rattle.sgf_core.proofs.StateLemmas.{and-left, and-right}
use Rattle.shape_dict.specs.Text.{line_feed}
use Rattle.game_core.specs.Collection.{AreTrees, record_of_tree, games_among}
use Rattle.listing_core.specs.declared.asked.Asked.{Asked}
use Rattle.listing_core.specs.declared.asked.Form.TheVariants as form
use Rattle.listing_core.specs.declared.lines.Line.{Line}
use Rattle.listing_core.specs.Choice.{is_chosen, pieces, form_text, name_in}
use Rattle.listing_core.specs.Listing.{AreLines}
use Rattle.listing_core.specs.Cuts.{chosen_trees, moved, tree_at, IsReadFrom}
use Rattle.listing_core.proofs.Moved.{tree_writes}

-- a white byte is no parenthesis
white_opens : (byte : ℕ) → IsTrue (is_white byte) → byte ≡ 40 → ⊥
white_opens byte white same = let no : false ≡ true = subst (λ b. IsTrue (is_white b)) same white in absurd (cc)

-- white bytes begin no tree
white_begins : (white rest behind : List ℕ) (k : ℕ) → IsTrue (list_all is_white white) → k < length white → drop k (white ++ rest) ≡ 40 ∷ behind → ⊥
white_begins [] rest behind k all inside e = omega (arith, inside)
white_begins (byte ∷ white) rest behind zero all inside e = white_opens byte (and-left (is_white byte) (list_all is_white white) all) (cc)
white_begins (byte ∷ white) rest behind (suc k) all inside e =
    white_begins white rest behind k (and-right (is_white byte) (list_all is_white white) all) (omega (arith, inside)) e

-- where only white bytes are left, none begins
white_none : (white behind : List ℕ) (k : ℕ) → IsTrue (list_all is_white white) → drop k white ≡ 40 ∷ behind → ⊥
white_none [] behind k all e =
    let none : drop k [] ≡ [] = drop_of_length-le [] (omega arith) in
    let bad = sym none ∙ e in
    absurd (cc)
white_none (byte ∷ white) behind zero all e = white_opens byte (and-left (is_white byte) (list_all is_white white) all) (cc)
white_none (byte ∷ white) behind (suc k) all e = white_none white behind k (and-right (is_white byte) (list_all is_white white) all) e

no_more : (front white : List ℕ) → IsTrue (list_all is_white white) → HasNoTree (front ++ white) (length front)
no_more front white all at after begins =
    let k = at - length front in
    let here : at ≡ length front + k = omega arith in
    let same : drop at (front ++ white) ≡ drop k white = ap (λ n. drop n (front ++ white)) here ∙ drop-append-add front white k in
    white_none white (begins.white ++ 59 ∷ begins.rest) k all (sym same ∙ begins.begins)

-- the inside of a tree begins with a semicolon
record BeginsInside (text : List ℕ) : Type 0 where
  pub white : List ℕ
  pub rest : List ℕ
  pub begins : text ≡ white ++ 59 ∷ rest
  pub is_white : IsTrue (list_all is_white white)

begins_inside : (at : ℕ) (nodes : List Node) (inner : List Part) (text : List ℕ) → nodes ≢ [] → WritesParts at (flat_map node_parts nodes ++ inner) text → BeginsInside text
begins_inside at [] inner text some h = absurd (some refl)
begins_inside at (node ∷ nodes) inner text some h = record {
  white = h.0;
  rest = h.2;
  begins = h.3 ∙ ap (λ written. h.0 ++ written ++ h.2) h.5 ∙ append_assoc h.0 (59 ∷ []) h.2;
  is_white = h.4;
}

-- a tree begins where it is written
begins_tree : (at : ℕ) (tree : GameTree) (text more : List ℕ) → WritesTree at tree text → BeginsTree (text ++ more)
begins_tree at tree text more h =
    let parts : tree_parts tree ≡ flat_map node_parts tree.nodes ++ (forest_parts tree.inner ++ closes ∷ []) =
    append_assoc (flat_map node_parts tree.nodes) (forest_parts tree.inner) (closes ∷ []) in
    let inside = begins_inside (at + 1) tree.nodes (forest_parts tree.inner ++ closes ∷ []) h.inside h.complete.0
    (subst (λ ps. WritesParts (at + 1) ps h.inside) parts h.parts) in
    record {
      white = inside.white;
      rest = inside.rest ++ more;
      begins = ap (λ t. t ++ more) (h.begins ∙ ap (λ t. 40 ∷ t) inside.begins) ∙ ap (λ t. 40 ∷ t) (append_assoc inside.white (59 ∷ inside.rest) more);
      is_white = inside.is_white;
    }

-- a tree whose bytes stand after white ones is the next tree
next_cut : (front white slice more : List ℕ) (from : ℕ) (tree : GameTree) → IsTrue (list_all is_white white) → WritesTree from tree slice →
    IsNextTree (front ++ (white ++ (slice ++ more))) (length front) (length front + length white) (length front + length white + length slice)
    (tree_at (moved from (length front + length white)) tree)
next_cut front white slice more from tree all h =
    let full = front ++ (white ++ (slice ++ more)) in
    let at = length front + length white in
    let behind : drop at full ≡ slice ++ more = drop-append-add front (white ++ (slice ++ more)) (length white) ∙ drop-append_seam white (slice ++ more) in
    let count : at + length slice - at ≡ length slice = omega arith in
    let same : slice_range full at (at + length slice) ≡ slice =
    ap₂ (λ n xs. take n xs) count behind ∙ take-append_seam slice more in
    record {
      first = record {
        after = omega arith;
        begins = subst BeginsTree (sym behind) (begins_tree from tree slice more h);
        first = λ earlier after before begins.
            let k = earlier - length front in
            let here : earlier ≡ length front + k = omega (arith, after) in
            let within : k < length white = omega (arith, before, after) in
            let there : drop earlier full ≡ drop k (white ++ (slice ++ more)) = ap (λ n. drop n full) here ∙ drop-append-add front (white ++ (slice ++ more)) k in
            white_begins white (slice ++ more) (begins.white ++ 59 ∷ begins.rest) k all within (sym there ∙ begins.begins);
      };
      before_end = omega arith;
      in_input = omega (arith, length-append front (white ++ (slice ++ more)), length-append white (slice ++ more), length-append slice more);
      writes = subst (WritesTree at (tree_at (moved from at) tree)) (sym same) (tree_writes from at tree slice h);
    }

-- the trees that are cut out, from a place on after which only white bytes come before them
read_from : (asked : Asked) (input : List ℕ) (number place end : ℕ) (trees : List GameTree) (lines : List Line) (full front white : List ℕ) →
    asked.form ≡ form.Trees → AreLines input number place trees end lines → IsTrue (list_all is_white white) →
    full ≡ front ++ (white ++ pieces asked input trees lines) → IsReadFrom full (length front) (chosen_trees asked trees lines)
read_from asked input number place end [] lines full front white is_cut h all is =
    let only : front ++ white ≡ full = ap (λ t. front ++ t) (sym (append-nil white)) ∙ sym is in
    record {
      trees = [];
      end = length front;
      written = refl;
      no_more = subst (λ t. HasNoTree t (length front)) only (no_more front white all);
      same = tt;
    }
read_from asked input number place end (tree ∷ trees) [] full front white is_cut h all is = absurd h
read_from asked input number place end (tree ∷ trees) (line ∷ lines) full front white is_cut h all is =
    by_test (is_chosen asked.form asked.conditions.now (main_line_of tree) line.what) (λ f w a e. read_from asked input next line.to end trees lines full f w is_cut h.3 a e) is
  where
    next : ℕ
    next = number + length (games_among (record_of_tree tree ∷ []))

    rest : List ℕ
    rest = pieces asked input trees lines

    text : List ℕ
    text = form_text asked.form (name_in asked) input (main_line_of tree) line

    slice : List ℕ
    slice = slice_range input line.from line.to

    others_from : Type 0
    others_from = (f w : List ℕ) → IsTrue (list_all is_white w) → full ≡ f ++ (w ++ rest) → IsReadFrom full (length f) (chosen_trees asked trees lines)

    by_test : (b : Bool) → others_from → full ≡ front ++ (white ++ (cond b text [] ++ rest)) →
        IsReadFrom full (length front) (cond b (tree ∷ chosen_trees asked trees lines) (chosen_trees asked trees lines))
    by_test false more e = more front white all e
    by_test true more e =
        let cut : text ≡ slice ++ line_feed = ap (λ f. form_text f (name_in asked) input (main_line_of tree) line) is_cut in
        let parts : full ≡ front ++ (white ++ (slice ++ (line_feed ++ rest))) =
        e ∙ ap (λ t. front ++ (white ++ (t ++ rest))) cut ∙ ap (λ t. front ++ (white ++ t)) (append_assoc slice line_feed rest) in
        let joined : full ≡ (front ++ (white ++ slice)) ++ (line_feed ++ rest) =
        parts ∙ ap (λ t. front ++ t) (sym (append_assoc white slice (line_feed ++ rest))) ∙ sym (append_assoc front (white ++ slice) (line_feed ++ rest)) in
        let at = length front + length white in
        let size : length (front ++ (white ++ slice)) ≡ at + length slice = omega (arith, length-append front (white ++ slice), length-append white slice) in
        let others = more (front ++ (white ++ slice)) line_feed refl joined in
        record {
          trees = tree_at (moved line.from at) tree ∷ others.trees;
          end = others.end;
          written = (
            at,
            at + length slice,
            subst (λ t. IsNextTree t (length front) at (at + length slice) (tree_at (moved line.from at) tree)) (sym parts)
                (next_cut front white slice (line_feed ++ rest) line.from tree all h.0.writes),
            subst (λ n. AreTrees full n others.trees others.end) size others.written,
          );
          no_more = others.no_more;
          same = ((line.from, at, refl), others.same);
        }

-- the text of all that are cut out
pub read_back : (asked : Asked) (input : List ℕ) (number place end : ℕ) (trees : List GameTree) (lines : List Line) →
    asked.form ≡ form.Trees → AreLines input number place trees end lines → IsReadFrom (pieces asked input trees lines) 0 (chosen_trees asked trees lines)
read_back asked input number place end trees lines is_cut h =
    read_from asked input number place end trees lines (pieces asked input trees lines) [] [] is_cut h refl refl
