-- The join of dictionaries that were judged range by range.
use Rattle.std.proofs.Common.{◌≡◌, ℕ, zero, suc, ◌+◌, ◌≤◌, ◌<◌, ◌^◌, List, [], ◌∷◌, length, drop, Bool, Option, Some, None, ap, sym, refl, ◌∙◌, subst, arith}
use Rattle.std.specs.List.{AllByRecursion, slice_get, sum_by}
use Rattle.std.proofs.lemmas.List.{drop_more}
use Rattle.std.proofs.lemmas.List.Sums.{sum_by-cons}
use Rattle.std.proofs.lemmas.Option.{get_or_from_slice_get, slice_get_within}
use Rattle.shape_dict.specs.declared.entries.Entry.{Entry}
use Rattle.shape_dict.specs.declared.headers.Header.{Header}
use Rattle.shape_dict.specs.Contents.{Contents, entry_of}
use Rattle.shape_dict.specs.Join.{joined_entry}
use Rattle.shape_dict.specs.Reading.{counts_of}
use Rattle.shape_dict.proofs.Climbing.{climbs_from_rises, climbs_lower}
use Rattle.stream_core.specs.Streams.{contents_of}
use Rattle.merge_core.specs.declared.cuts.Cut.{Cut}
use Rattle.merge_core.specs.declared.cuts.Plan.{Plan}
use Rattle.merge_core.specs.declared.judged.Totals.{Totals}
use Rattle.merge_core.specs.declared.measuring.Ranged.{Ranged}
use Rattle.merge_core.specs.declared.tallies.Tally.{Tally}
use Rattle.merge_core.specs.Merge.{AreInputs, AreTexts}
use Rattle.merge_core.specs.Inner.Folds.{Folds}
use Rattle.merge_core.specs.Inner.Leaves.{Offers}
use Rattle.merge_core.specs.Inner.Judging.{HasSummed}
use Rattle.merge_core.specs.Inner.Ranges.{Piece, Each, IsPiece, AreJoined, AreTallies, IsRanged, IsCut, found, games_in}
use Rattle.merge_core.specs.Inner.Surveys.{IsWhole, IsTotalsOf, IsSurveyed}
use Rattle.merge_core.proofs.Alone.{entries_same}
use Rattle.merge_core.proofs.Folded.{folds_exist, sum_has_kinds, sum_is_dictionary}
use Rattle.merge_core.proofs.Grown.{offers_are}
use Rattle.shape_dict.proofs.Regrouped.{entries_regroup}
use Rattle.merge_core.proofs.Rising.{climbs_of}
use Rattle.merge_core.proofs.Surveyed.{text_of_piece}

abbrev dicts : List Piece → List Contents
dicts [] = []
dicts (p ∷ ps) = contents_of p.header p.entries ∷ dicts ps

abbrev headers_in : List Piece → List Header
headers_in [] = []
headers_in (p ∷ ps) = p.header ∷ headers_in ps

abbrev moves_in : List Piece → ℕ
moves_in [] = 0
moves_in (p ∷ ps) = p.header.moves + moves_in ps

headers_from : (bytes : ℕ → Option (List ℕ)) (headers : List Header) (low high : Cut) (from : ℕ) (ps : List Piece) → Each (IsPiece bytes headers low high) from ps → from + length ps ≡ length headers → headers_in ps ≡ drop from headers
headers_from bytes headers low high from [] h all = sym (nothing from headers (omega (arith, all)))
  where
    nothing : (n : ℕ) (xs : List Header) → length xs ≤ n → drop n xs ≡ []
    nothing zero [] h = refl
    nothing zero (x ∷ xs) h = absurd (omega arith)
    nothing (suc n) [] h = refl
    nothing (suc n) (x ∷ xs) h = nothing n xs (omega arith)
headers_from bytes headers low high from (p ∷ ps) h all =
    let few = slice_get_within headers from p.header h.0.header in
    let here = get_or_from_slice_get headers from p.header p.header h.0.header in
    ap (λ (xs : List Header). p.header ∷ xs) (headers_from bytes headers low high (from + 1) ps h.1 (omega (arith, all)))
    ∙ (ap (λ (x : Header). x ∷ drop (from + 1) headers) (sym here) ∙ sym (drop_more headers from p.header few))

games_are : (ps : List Piece) → games_in ps ≡ sum_by (λ (h : Header). h.games) (headers_in ps)
games_are [] = refl
games_are (p ∷ ps) = omega (arith, games_are ps, sum_by-cons (λ (h : Header). h.games) p.header (headers_in ps))

moves_are : (ps : List Piece) → moves_in ps ≡ sum_by (λ (h : Header). h.moves) (headers_in ps)
moves_are [] = refl
moves_are (p ∷ ps) = omega (arith, moves_are ps, sum_by-cons (λ (h : Header). h.moves) p.header (headers_in ps))

-- each input is the text of its dictionary
record AreGood (bytes : ℕ → Option (List ℕ)) (kind : Bool) (from : ℕ) (ps : List Piece) (inputs : List (List ℕ)) : Type 0 where
  pub texts : AreTexts (dicts ps) inputs
  pub offers : Offers bytes kind from (dicts ps)

are_good : (bytes : ℕ → Option (List ℕ)) (headers : List Header) (low high : Cut) (kind : Bool) (from : ℕ) (ps : List Piece) (ts : List Tally) (inputs : List (List ℕ)) → Each (IsPiece bytes headers low high) from ps → AreTallies ps ts →
    ((k : ℕ) (t : Tally) → slice_get ts k ≡ Some t → IsWhole bytes headers low high (from + k) t) → AllByRecursion (λ h. counts_of h ≡ kind) (headers_in ps) → AreInputs bytes from inputs → length inputs ≡ length ps → AreGood bytes kind from ps inputs
are_good bytes headers low high kind from [] ts [] h t w kinds known same = record { texts = tt; offers = tt }
are_good bytes headers low high kind from [] ts (i ∷ inputs) h t w kinds known same = absurd (omega (arith, same))
are_good bytes headers low high kind from (p ∷ ps) ts [] h t w kinds known same = absurd (omega (arith, same))
are_good bytes headers low high kind from (p ∷ ps) [] (i ∷ inputs) h t w kinds known same = absurd t
are_good bytes headers low high kind from (p ∷ ps) (u ∷ ts) (i ∷ inputs) h t w kinds known same =
    let zeroth : from + 0 ≡ from = omega arith in
    let here = subst (λ (n : ℕ). IsWhole bytes headers low high n u) zeroth (w 0 u refl) in
    let is = text_of_piece bytes headers low high from p u i h.0 t.0 here known.0 in
    let more = are_good bytes headers low high kind (from + 1) ps ts inputs h.1 t.1
    (λ k v at. (let next : from + suc k ≡ from + 1 + k = omega arith in subst (λ (n : ℕ). IsWhole bytes headers low high n v) next (w (suc k) v at))) kinds.1 known.1 (omega (arith, same)) in
    record {
      texts = (is, more.texts);
      offers = (record { text = i; known = known.0; is_text = is; kinds = kinds.0 }, more.offers);
    }

first_of : (games : ℕ) (x : Option Entry) → x ≡ joined_entry games x None
first_of games None = refl
first_of games (Some e) = refl

-- what the sum has of a pattern, and how many games and moves
folds_found : (acc : Contents) (ps : List Piece) (sum : Contents) → Folds acc (dicts ps) sum → (shape : ℕ) → entry_of shape sum.entries ≡ joined_entry acc.games (entry_of shape acc.entries) (found shape ps)
folds_found acc [] sum h shape = ap (λ (c : Contents). entry_of shape c.entries) h ∙ first_of acc.games (entry_of shape acc.entries)
folds_found acc (p ∷ ps) sum h shape =
    let both = h.0 in
    folds_found both ps sum h.2 shape
    ∙ (ap (λ (n : ℕ). joined_entry n (entry_of shape both.entries) (found shape ps)) h.1.games
    ∙ (ap (λ (x : Option Entry). joined_entry (acc.games + p.header.games) x (found shape ps)) (h.1.entries shape)
    ∙ sym (entries_regroup acc.games p.header.games (entry_of shape acc.entries) (entry_of shape p.entries) (found shape ps))))

folds_games : (acc : Contents) (ps : List Piece) (sum : Contents) → Folds acc (dicts ps) sum → sum.games ≡ acc.games + games_in ps
folds_games acc [] sum h = omega (arith, ap (λ (c : Contents). c.games) h)
folds_games acc (p ∷ ps) sum h = omega (arith, folds_games h.0 ps sum h.2, h.1.games)

folds_moves : (acc : Contents) (ps : List Piece) (sum : Contents) → Folds acc (dicts ps) sum → sum.moves ≡ acc.moves + moves_in ps
folds_moves acc [] sum h = omega (arith, ap (λ (c : Contents). c.moves) h)
folds_moves acc (p ∷ ps) sum h = omega (arith, folds_moves h.0 ps sum h.2, h.1.moves)

-- the join of all dictionaries is what is between the first cut and the last
summed : (bytes : ℕ → Option (List ℕ)) (low high : Cut) (totals : Totals) (ps : List Piece) (entries : List Entry) (inputs : List (List ℕ)) → 0 < length ps → AreJoined ps low.word high.word entries → AreGood bytes totals.counts_diamonds 0 ps inputs →
    totals.games ≡ games_in ps → totals.moves ≡ moves_in ps → totals.games < 2 ^ 64 → totals.moves < 2 ^ 64 → HasSummed bytes 0 totals inputs entries
summed bytes low high totals [] entries inputs some joined good games moves few_games few_moves = absurd (omega (arith, some))
summed bytes low high totals (p ∷ ps) entries inputs some joined good games moves few_games few_moves =
    let kind = totals.counts_diamonds in
    let are = offers_are bytes kind 0 (dicts (p ∷ ps)) good.offers in
    let sum = folds_exist kind 0 (dicts (p ∷ ps)) (omega arith) are in
    let is = sum_is_dictionary (contents_of p.header p.entries) (dicts ps) sum.0 are.0.0 sum.1 in
    record {
      all = dicts (p ∷ ps);
      sum = sum.0;
      texts = good.texts;
      offers = good.offers;
      folds = sum.1;
      same = entries_same 0 sum.0.entries entries (climbs_from_rises sum.0.entries is.rises) (climbs_lower 0 low.word entries (omega arith) (climbs_of low.word high.word entries joined.rises))
          (λ shape. folds_found (contents_of p.header p.entries) ps sum.0 sum.1 shape ∙ sym (joined.same shape));
      of_sum = record {
        games = games ∙ sym (folds_games (contents_of p.header p.entries) ps sum.0 sum.1);
        moves = moves ∙ sym (folds_moves (contents_of p.header p.entries) ps sum.0 sum.1);
        kinds = sym (sum_has_kinds (contents_of p.header p.entries) (dicts ps) sum.0 sum.1 ∙ are.0.1);
      };
      few_games = few_games;
      few_moves = few_moves;
    }

same_some : {X : Type 0} (a b : X) (x : Option X) → x ≡ Some a → x ≡ Some b → a ≡ b
same_some {X} a b x h k = let e : Some a ≡ Some b = sym h ∙ k in cc

-- all that was judged
pub surveyed : (bytes : ℕ → Option (List ℕ)) (plan : Plan) (last : ℕ) (ranged : Ranged) (low high : Cut) (totals : Totals) → IsRanged bytes plan 0 last ranged → last + 1 ≡ length plan.cuts.items → IsCut plan.cuts.items 0 low →
    IsCut plan.cuts.items last high → ((n : ℕ) (t : Tally) → slice_get ranged.each.items n ≡ Some t → IsWhole bytes plan.headers.items low high n t) → IsTotalsOf plan.headers.items totals →
    IsSurveyed bytes plan totals ranged.joined
surveyed bytes plan last ranged low high totals h is_last is_low is_high wholes t =
    let headers = plan.headers.items in
    let one : low ≡ h.low = same_some low h.low (slice_get plan.cuts.items 0) is_low h.is_low in
    let two : high ≡ h.high = same_some high h.high (slice_get plan.cuts.items last) is_high h.is_high in
    let ps = h.has.pieces in
    let same : headers_in ps ≡ headers = headers_from bytes headers h.low h.high 0 ps h.has.are (omega (arith, h.has.number)) in
    let whole : (n : ℕ) (u : Tally) → slice_get ranged.each.items n ≡ Some u → IsWhole bytes headers h.low h.high (0 + n) u =
    λ n u at. (let plain : n ≡ 0 + n = omega arith in subst (λ (m : ℕ). IsWhole bytes headers h.low h.high m u) plain (subst (λ (c : Cut). IsWhole bytes headers h.low c n u) two (subst (λ (c : Cut). IsWhole bytes headers c high n u) one (wholes n u at)))) in
    record {
      parts = h.parts;
      number = omega (arith, h.number, is_last);
      are_parts = h.are_parts;
      joined = λ inputs known number. (
        record {
          entries = h.has.joined;
          summed = summed bytes h.low h.high totals ps h.has.joined inputs (omega (arith, t.some, h.has.number)) h.has.sum
              (are_good bytes headers h.low h.high totals.counts_diamonds 0 ps ranged.each.items inputs h.has.are h.each whole (subst (λ (hs : List Header). AllByRecursion (λ x. counts_of x ≡ totals.counts_diamonds) hs) (sym same) t.kinds) known
              (omega (arith, number, h.has.number)))
              (t.games ∙ (ap (sum_by (λ (x : Header). x.games)) (sym same) ∙ sym (games_are ps))) (t.moves ∙ (ap (sum_by (λ (x : Header). x.moves)) (sym same) ∙ sym (moves_are ps))) t.few_games t.few_moves;
          counted = h.joined;
        },
        h.all,
      );
    }
