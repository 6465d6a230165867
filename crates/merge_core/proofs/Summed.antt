-- Dictionaries that were read to their ends, by halves.
use Rattle.std.proofs.Common.{◌≡◌, ℕ, zero, suc, ◌+◌, ◌-◌, ◌≤◌, List, [], ◌∷◌, ◌++◌, length, Bool, Option, Some, Result, Ok, Err, IfOk, ap, sym, refl, subst, ◌∙◌, arith, length-append}
use Rattle.shape_dict.specs.declared.entries.Entry.{Entry}
use Rattle.shape_dict.specs.Contents.{Contents}
use Rattle.shape_dict.specs.Reading.{IsTextOf}
use Rattle.shape_dict.specs.Inner.Merging.{merged}
use Rattle.stream_core.specs.Streams.{Stream, HasGiven, contents_of}
use Rattle.merge_core.specs.Merge.{AreTexts, AreInputs}
use Rattle.merge_core.specs.Inner.Folds.{both_of}
use Rattle.merge_core.specs.Inner.Leaves.{Offers, HasCome}
use Rattle.merge_core.specs.Inner.Judging.{IsTotal, IsTotalIn, HasSummed}
use Rattle.merge_core.specs.declared.judged.Totals.{Totals}
use Rattle.merge_core.specs.declared.growing.Grown.{Grown}
use Rattle.merge_core.specs.declared.entries.NextFault.{NextFault}
use Rattle.merge_core.specs.Inner.Trees.{Yields}
use Rattle.merge_core.proofs.Folded.{folds_both}
use Rattle.merge_core.proofs.Grown.{offers_are}
use Rattle.merge_core.proofs.Prefixed.{texts_number}

-- one by itself
pub one_summed : (bytes : ℕ → Option (List ℕ)) (from : ℕ) (totals : Totals) (lines : Stream) (inputs : List (List ℕ)) (entries : List Entry) → AreInputs bytes from inputs → length inputs ≡ 1 →
    ((text : List ℕ) → bytes from ≡ Some text → HasGiven lines text []) → IsTotalIn totals lines.header → HasCome lines entries → HasSummed bytes from totals inputs entries
one_summed bytes from totals lines [] entries are one given is came = absurd (omega arith)
one_summed bytes from totals lines (text ∷ []) entries are one given is came =
    let is_text : IsTextOf (contents_of lines.header entries) text = came text [] (given text are.0) in
    record {
      all = contents_of lines.header entries ∷ [];
      sum = contents_of lines.header entries;
      texts = (is_text, tt);
      offers = (record { text = text; known = are.0; is_text = is_text; kinds = sym is.kinds }, tt);
      folds = refl;
      same = refl;
      of_sum = record { games = is.games; moves = is.moves; kinds = is.kinds };
      few_games = omega (arith, is.games, is_text.small.games);
      few_moves = omega (arith, is.moves, is_text.small.moves);
    }
one_summed bytes from totals lines (text ∷ other ∷ others) entries are one given is came = absurd (omega arith)

texts_both : (xs ys : List Contents) (is js : List (List ℕ)) → AreTexts xs is → AreTexts ys js → AreTexts (xs ++ ys) (is ++ js)
texts_both [] ys [] js h k = k
texts_both [] ys (i ∷ is) js h k = absurd h
texts_both (x ∷ xs) ys [] js h k = absurd h
texts_both (x ∷ xs) ys (i ∷ is) js h k = (h.0, texts_both xs ys is js h.1 k)

offers_both : (bytes : ℕ → Option (List ℕ)) (kind : Bool) (from middle : ℕ) (xs ys : List Contents) → middle ≡ from + length xs → Offers bytes kind from xs → Offers bytes kind middle ys → Offers bytes kind from (xs ++ ys)
offers_both bytes kind from middle [] ys at h k = let same : middle ≡ from = omega arith in subst (λ (n : ℕ). Offers bytes kind n ys) same k
offers_both bytes kind from middle (x ∷ xs) ys at h k = (h.0, offers_both bytes kind (from + 1) middle xs ys (omega arith) h.1 k)

-- the first of the inputs, and the others
record AreParted (bytes : ℕ → Option (List ℕ)) (from half : ℕ) (inputs : List (List ℕ)) : Type 0 where
  pub first : List (List ℕ)
  pub last : List (List ℕ)
  pub parts : inputs ≡ first ++ last
  pub number : length first ≡ half
  pub of_first : AreInputs bytes from first
  pub of_last : AreInputs bytes (from + half) last

parted : (bytes : ℕ → Option (List ℕ)) (from half : ℕ) (inputs : List (List ℕ)) → half ≤ length inputs → AreInputs bytes from inputs → AreParted bytes from half inputs
parted bytes from zero inputs few h = record {
  first = [];
  last = inputs;
  parts = refl;
  number = refl;
  of_first = tt;
  of_last = (let same : from ≡ from + 0 = omega arith in subst (λ (n : ℕ). AreInputs bytes n inputs) same h);
}
parted bytes from (suc half) [] few h = absurd (omega arith)
parted bytes from (suc half) (i ∷ inputs) few h =
    let rest = parted bytes (from + 1) half inputs (omega arith) h.1 in
    record {
      first = i ∷ rest.first;
      last = rest.last;
      parts = ap (λ (xs : List (List ℕ)). i ∷ xs) rest.parts;
      number = omega (arith, rest.number);
      of_first = (h.0, rest.of_first);
      of_last = (let same : from + 1 + half ≡ from + suc half = omega arith in subst (λ (n : ℕ). AreInputs bytes n rest.last) same rest.of_last);
    }

both_summed : (bytes : ℕ → Option (List ℕ)) (from half : ℕ) (left right both : Totals) (inputs : List (List ℕ)) (entries mine other : List Entry) (s : AreParted bytes from half inputs) → IsTotal left right both →
    HasSummed bytes from left s.first mine → HasSummed bytes (from + half) right s.last other → entries ≡ merged left.games mine other → HasSummed bytes from both inputs entries
both_summed bytes from half left right both inputs entries mine other s t p q is =
    let one = subst (λ (b : Bool). Offers bytes b from p.all) (sym t.kinds) p.offers in
    let two = subst (λ (b : Bool). Offers bytes b (from + half) q.all) (sym (t.kinds ∙ t.same_kinds)) q.offers in
    let number = texts_number p.all s.first p.texts in
    let folded = folds_both both.counts_diamonds p.all q.all p.sum q.sum (offers_are bytes both.counts_diamonds from p.all one) (offers_are bytes both.counts_diamonds (from + half) q.all two) p.folds q.folds in
    record {
      all = p.all ++ q.all;
      sum = both_of p.sum q.sum;
      texts = subst (λ (xs : List (List ℕ)). AreTexts (p.all ++ q.all) xs) (sym s.parts) (texts_both p.all q.all s.first s.last p.texts q.texts);
      offers = offers_both bytes both.counts_diamonds from (from + half) p.all q.all (omega (arith, number, s.number)) one two;
      folds = folded.0;
      same = sym (is ∙ (ap (λ (m : ℕ). merged m mine other) p.of_sum.games ∙ (ap (λ (xs : List Entry). merged p.sum.games xs other) (sym p.same) ∙ ap (merged p.sum.games p.sum.entries) (sym q.same))));
      of_sum = record {
        games = omega (arith, t.games, p.of_sum.games, q.of_sum.games);
        moves = omega (arith, t.moves, p.of_sum.moves, q.of_sum.moves);
        kinds = t.kinds ∙ p.of_sum.kinds;
      };
      few_games = t.few_games;
      few_moves = t.few_moves;
    }

-- of both halves
pub halves_summed : (bytes : ℕ → Option (List ℕ)) (from count half : ℕ) (left right both : Totals) (inputs : List (List ℕ)) (entries mine other : List Entry) → AreInputs bytes from inputs → length inputs ≡ count → half ≤ count → IsTotal left right both →
    ((xs : List (List ℕ)) → AreInputs bytes from xs → length xs ≡ half → HasSummed bytes from left xs mine) →
    ((ys : List (List ℕ)) → AreInputs bytes (from + half) ys → length ys ≡ count - half → HasSummed bytes (from + half) right ys other) →
    entries ≡ merged left.games mine other → HasSummed bytes from both inputs entries
halves_summed bytes from count half left right both inputs entries mine other are number low t p q is =
    let s = parted bytes from half inputs (omega arith) are in
    let last : length s.last ≡ count - half = omega (arith, length-append s.first s.last, ap length s.parts, s.number) in
    both_summed bytes from half left right both inputs entries mine other s t (p s.first s.of_first s.number) (q s.last s.of_last last) is

-- what is known of a tree whose leaves are these inputs
abbrev pub Sums : {E : Type 0} → (E → List Entry → Type 0) → (ℕ → Option (List ℕ)) → ℕ → ℕ → Grown E → Type 0
Sums Of bytes from count grown = (inputs : List (List ℕ)) → (entries : List Entry) → AreInputs bytes from inputs → length inputs ≡ count → Yields Of grown.tree entries → HasSummed bytes from grown.totals inputs entries

pub pair_summed : {E : Type 0} (Of : E → List Entry → Type 0) (bytes : ℕ → Option (List ℕ)) (from count half : ℕ) (result : Result (Grown E) NextFault) (left right : Grown E) → half ≤ count →
    IfOk result (λ both. (entries : List Entry) → Yields Of both.tree entries → (mine : List Entry) × (other : List Entry) × Yields Of left.tree mine × Yields Of right.tree other × (entries ≡ merged left.totals.games mine other)) →
    IfOk result (λ both. IsTotal left.totals right.totals both.totals) → Sums Of bytes from half left → Sums Of bytes (from + half) (count - half) right → IfOk result (Sums Of bytes from count)
pair_summed {E} Of bytes from count half (Ok both) left right low h t p q = λ inputs entries are number came.
    let w = h entries came in
    halves_summed bytes from count half left.totals right.totals both.totals inputs entries w.0 w.1 are number low t (λ xs a n. p xs w.0 a n w.2) (λ ys a n. q ys w.1 a n w.3) w.4
pair_summed {E} Of bytes from count half (Err found) left right low h t p q = tt
