-- What dictionaries have in two ranges that follow one another.
use Rattle.std.proofs.Common.{◌≡◌, ℕ, suc, ◌+◌, ◌-◌, ◌≤◌, ◌<◌, inl, inr, List, [], ◌∷◌, ◌++◌, length, take, drop, Option, Some, ap, sym, refl, ◌∙◌, subst, arith, take-add, append_assoc, length-append, get_or, Result, Ok, IfOk}
use Rattle.std.specs.List.{flat_map, AllByRecursion}
use Rattle.std.proofs.lemmas.List.Concat.{flat_map-append}
use Rattle.std.proofs.lemmas.List.{drop-drop}
use Rattle.std.proofs.lemmas.Bool.{cases_lt}
use Rattle.std.specs.List.{slice_get}
use Rattle.shape_dict.specs.declared.entries.Entry.{Entry}
use Rattle.shape_dict.specs.declared.headers.Header.{Header}
use Rattle.shape_dict.specs.Contents.{entry_of}
use Rattle.shape_dict.specs.Join.{joined_entry}
use Rattle.shape_dict.specs.Text.{line_text}
use Rattle.stream_core.specs.Rows.{IsRow}
use Rattle.merge_core.specs.declared.cuts.Cut.{Cut}
use Rattle.merge_core.specs.declared.cuts.Plan.{Plan}
use Rattle.merge_core.specs.declared.tallies.Tally.{Tally}
use Rattle.merge_core.specs.declared.measuring.Ranged.{Ranged}
use Rattle.merge_core.specs.Inner.Ranges.{IsWithin, Piece, Each, IsPiece, AreJoined, IsCountOf, AreTallies, HasRange, AreParts, IsRanged, all_of, beside, found}
use Rattle.merge_core.specs.Inner.Tallies.{sum_of, sums}
use Rattle.merge_core.specs.Inner.Blocks.{AreBlocks}
use Rattle.merge_core.specs.declared.entries.NextFault.{NextFault}
use Rattle.merge_core.proofs.Rising.{rises_append, all_append, found_before, found_after}
use Rattle.merge_core.proofs.Counted.{both_counted}
use Rattle.merge_core.proofs.Tallied.{tallies_beside}

-- bytes from a place to another, and from there on
pub within_both : (text : List ℕ) (from middle to : ℕ) (xs ys : List ℕ) → IsWithin text from middle xs → IsWithin text middle to ys → IsWithin text from to (xs ++ ys)
within_both text from middle to xs ys h k =
    let one : to - from ≡ (middle - from) + (to - middle) = omega (arith, h.order, k.order) in
    let two : middle ≡ from + (middle - from) = omega (arith, h.order) in
    let parts = take-add (middle - from) (to - middle) (drop from text) in
    let rest : drop (middle - from) (drop from text) ≡ drop middle text = drop-drop (middle - from) from text ∙ ap (λ (n : ℕ). drop n text) (sym two) in
    record {
      order = omega (arith, h.order, k.order);
      same = ap (λ (zs : List ℕ). zs ++ ys) h.same ∙ (ap (λ (zs : List ℕ). take (middle - from) (drop from text) ++ zs) (k.same ∙ ap (take (to - middle)) (sym rest)) ∙ (sym parts ∙ ap (λ (n : ℕ). take n (drop from text)) (sym one)));
    }

same_some : {X : Type 0} (a b : X) (x : Option X) → x ≡ Some a → x ≡ Some b → a ≡ b
same_some {X} a b x h k = let e : Some a ≡ Some b = sym h ∙ k in cc

pub piece_both : (bytes : ℕ → Option (List ℕ)) (headers : List Header) (low middle high : Cut) (n : ℕ) (p q : Piece) → IsPiece bytes headers low middle n p → IsPiece bytes headers middle high n q →
    IsPiece bytes headers low high n (record { header = p.header; entries = p.entries ++ q.entries })
piece_both bytes headers low middle high n p q h k =
    let same : q.header ≡ p.header = same_some q.header p.header (slice_get headers n) k.header h.header in
    record {
      header = h.header;
      from = h.from;
      to = k.to;
      is_from = h.is_from;
      is_to = k.is_to;
      rows = record {
        rises = rises_append low.word middle.word high.word p.entries q.entries h.rows.rises k.rows.rises;
        each = all_append (IsRow p.header) p.entries q.entries h.rows.each (subst (λ (x : Header). AllByRecursion (IsRow x) q.entries) same k.rows.each);
      };
      same = λ text known.
          let one = h.same text known in
          let seam : k.from ≡ h.to = same_some k.from h.to (slice_get middle.places.items n) k.is_from h.is_to in
          let two = subst (λ (x : Header). IsWithin text k.from k.to (flat_map (line_text x.text) q.entries)) same (k.same text known) in
          let three = subst (λ (m : ℕ). IsWithin text m k.to (flat_map (line_text p.header.text) q.entries)) seam two in
          subst (λ (xs : List ℕ). IsWithin text h.from k.to xs) (sym (flat_map-append (line_text p.header.text) p.entries q.entries))
          (within_both text h.from h.to k.to (flat_map (line_text p.header.text) p.entries) (flat_map (line_text p.header.text) q.entries) one three);
    }

pub each_beside : (bytes : ℕ → Option (List ℕ)) (headers : List Header) (low middle high : Cut) (from : ℕ) (ps qs : List Piece) → length ps ≡ length qs → Each (IsPiece bytes headers low middle) from ps →
    Each (IsPiece bytes headers middle high) from qs → Each (IsPiece bytes headers low high) from (beside ps qs)
each_beside bytes headers low middle high from [] qs same h k = tt
each_beside bytes headers low middle high from (p ∷ ps) [] same h k = absurd (omega arith)
each_beside bytes headers low middle high from (p ∷ ps) (q ∷ qs) same h k =
    (piece_both bytes headers low middle high from p q h.0 k.0, each_beside bytes headers low middle high (from + 1) ps qs (omega arith) h.1 k.1)

pub length-beside : (ps qs : List Piece) → length ps ≡ length qs → length (beside ps qs) ≡ length ps
length-beside [] qs same = refl
length-beside (p ∷ ps) [] same = absurd (omega arith)
length-beside (p ∷ ps) (q ∷ qs) same = ap suc (length-beside ps qs (omega arith))

-- a pattern below the cut is found in what comes before it
beside_before : (bytes : ℕ → Option (List ℕ)) (headers : List Header) (middle high : Cut) (shape from : ℕ) (ps qs : List Piece) → length ps ≡ length qs → shape < middle.word →
    Each (IsPiece bytes headers middle high) from qs → found shape (beside ps qs) ≡ found shape ps
beside_before bytes headers middle high shape from [] qs same below k = refl
beside_before bytes headers middle high shape from (p ∷ ps) [] same below k = absurd (omega arith)
beside_before bytes headers middle high shape from (p ∷ ps) (q ∷ qs) same below k =
    ap (λ (x : Option Entry). joined_entry p.header.games x (found shape (beside ps qs))) (found_before shape middle.word high.word p.entries q.entries below k.0.rows.rises)
    ∙ ap (joined_entry p.header.games (entry_of shape p.entries)) (beside_before bytes headers middle high shape (from + 1) ps qs (omega arith) below k.1)

beside_after : (bytes : ℕ → Option (List ℕ)) (headers : List Header) (low middle high : Cut) (shape from : ℕ) (ps qs : List Piece) → length ps ≡ length qs → middle.word ≤ shape →
    Each (IsPiece bytes headers low middle) from ps → Each (IsPiece bytes headers middle high) from qs → found shape (beside ps qs) ≡ found shape qs
beside_after bytes headers low middle high shape from [] [] same above h k = refl
beside_after bytes headers low middle high shape from [] (q ∷ qs) same above h k = absurd (omega arith)
beside_after bytes headers low middle high shape from (p ∷ ps) [] same above h k = absurd (omega arith)
beside_after bytes headers low middle high shape from (p ∷ ps) (q ∷ qs) same above h k =
    let one : p.header ≡ q.header = same_some p.header q.header (slice_get headers from) h.0.header k.0.header in
    ap (λ (x : Option Entry). joined_entry p.header.games x (found shape (beside ps qs))) (found_after shape low.word middle.word p.entries q.entries above h.0.rows.rises)
    ∙ (ap (joined_entry p.header.games (entry_of shape q.entries)) (beside_after bytes headers low middle high shape (from + 1) ps qs (omega arith) above h.1 k.1)
    ∙ ap (λ (x : Header). joined_entry x.games (entry_of shape q.entries) (found shape qs)) one)

joined_beside : (bytes : ℕ → Option (List ℕ)) (headers : List Header) (low middle high : Cut) (ps qs : List Piece) (es fs : List Entry) → length ps ≡ length qs → Each (IsPiece bytes headers low middle) 0 ps →
    Each (IsPiece bytes headers middle high) 0 qs → AreJoined ps low.word middle.word es → AreJoined qs middle.word high.word fs → AreJoined (beside ps qs) low.word high.word (es ++ fs)
joined_beside bytes headers low middle high ps qs es fs same h k a b = record {
  rises = rises_append low.word middle.word high.word es fs a.rises b.rises;
  same = λ shape. elim (cases_lt shape middle.word) [
    | inl below ↦ found_before shape middle.word high.word es fs below b.rises ∙ (a.same shape ∙ sym (beside_before bytes headers middle high shape 0 ps qs same below k))
    | inr above ↦ found_after shape low.word middle.word es fs above a.rises ∙ (b.same shape ∙ sym (beside_after bytes headers low middle high shape 0 ps qs same above h k))
  ];
}

-- two ranges that follow one another are one
pub range_both : (bytes : ℕ → Option (List ℕ)) (headers : List Header) (low middle high : Cut) → HasRange bytes headers low middle → HasRange bytes headers middle high → HasRange bytes headers low high
range_both bytes headers low middle high h k =
    let same : length h.pieces ≡ length k.pieces = h.number ∙ sym k.number in
    record {
      pieces = beside h.pieces k.pieces;
      joined = h.joined ++ k.joined;
      number = length-beside h.pieces k.pieces same ∙ h.number;
      are = each_beside bytes headers low middle high 0 h.pieces k.pieces same h.are k.are;
      sum = joined_beside bytes headers low middle high h.pieces k.pieces h.joined k.joined same h.are k.are h.sum k.sum;
    }

-- what is in a range, and how much that is
abbrev HasMuch : (ℕ → Option (List ℕ)) → Option ℕ → List Header → Cut → Cut → Tally → List Tally → List Entry → Type 0
HasMuch bytes least headers low high joined each all = (has : HasRange bytes headers low high) × IsCountOf least has.joined joined × AreTallies has.pieces each × (has.joined ≡ all)

parts_append : (bytes : ℕ → Option (List ℕ)) (plan : Plan) (from middle : ℕ) (xs ys : List (List Entry)) → from + length xs ≡ middle → AreParts bytes plan from xs → AreParts bytes plan middle ys → AreParts bytes plan from (xs ++ ys)
parts_append bytes plan from middle [] ys at h k = let same : middle ≡ from = omega (arith, at) in subst (λ (n : ℕ). AreParts bytes plan n ys) same k
parts_append bytes plan from middle (x ∷ xs) ys at h k = (h.0, parts_append bytes plan (from + 1) middle xs ys (omega (arith, at)) h.1 k)

pub all_append_all : (xs ys : List (List Entry)) → all_of (xs ++ ys) ≡ all_of xs ++ all_of ys
all_append_all [] ys = refl
all_append_all (x ∷ xs) ys = ap (λ (zs : List Entry). x ++ zs) (all_append_all xs ys) ∙ sym (append_assoc x (all_of xs) (all_of ys))

-- and so is how much is in them
pub ranged_both : (bytes : ℕ → Option (List ℕ)) (plan : Plan) (from middle to : ℕ) (a b both : Ranged) → IsRanged bytes plan from middle a → IsRanged bytes plan middle to b →
    both.joined ≡ sum_of a.joined b.joined → both.each.items ≡ sums a.each.items b.each.items → IsRanged bytes plan from to both
unfolding range_both
ranged_both bytes plan from middle to a b both h k joined each =
    let cut : k.low ≡ h.high = same_some k.low h.high (slice_get plan.cuts.items middle) k.is_low h.is_high in
    let next = subst (λ (c : Cut). HasMuch bytes plan.least plan.headers.items c k.high b.joined b.each.items (all_of k.parts)) cut (k.has, k.joined, k.each, k.all) in
    record {
      low = h.low;
      high = k.high;
      is_low = h.is_low;
      is_high = k.is_high;
      has = range_both bytes plan.headers.items h.low h.high k.high h.has next.0;
      joined = subst (λ (t : Tally). IsCountOf plan.least (h.has.joined ++ next.0.joined) t) (sym joined) (both_counted plan.least h.has.joined next.0.joined a.joined b.joined h.joined next.1);
      each = subst (λ (ts : List Tally). AreTallies (beside h.has.pieces next.0.pieces) ts) (sym each)
          (tallies_beside h.has.pieces next.0.pieces a.each.items b.each.items h.each next.2 (h.has.number ∙ sym next.0.number));
      parts = h.parts ++ k.parts;
      number = omega (arith, length-append h.parts k.parts, h.number, k.number);
      are_parts = parts_append bytes plan from middle h.parts k.parts h.number h.are_parts k.are_parts;
      all = ap (λ (es : List Entry). es ++ next.0.joined) h.all ∙ (ap (λ (es : List Entry). all_of h.parts ++ es) next.3 ∙ sym (all_append_all h.parts k.parts));
    }

-- of the same tallies
pub ranged_copy : (bytes : ℕ → Option (List ℕ)) (plan : Plan) (from to : ℕ) (a b : Ranged) → IsRanged bytes plan from to a → b.joined ≡ a.joined → b.each.items ≡ a.each.items → IsRanged bytes plan from to b
ranged_copy bytes plan from to a b h joined each = record {
  low = h.low;
  high = h.high;
  is_low = h.is_low;
  is_high = h.is_high;
  has = h.has;
  joined = subst (λ (t : Tally). IsCountOf plan.least h.has.joined t) (sym joined) h.joined;
  each = subst (λ (ts : List Tally). AreTallies h.has.pieces ts) (sym each) h.each;
  parts = h.parts;
  number = h.number;
  are_parts = h.are_parts;
  all = h.all;
}

-- what was counted of one block
pub block_at : (bytes : ℕ → Option (List ℕ)) (plan : Plan) (end : ℕ → ℕ) (blocks : List (Result Ranged NextFault)) (i : ℕ) (x : Result Ranged NextFault) (r : Ranged) → AreBlocks bytes plan end blocks → i < length blocks → x ≡ get_or blocks i x → x ≡ Ok r →
    IsRanged bytes plan (end i) (end (i + 1)) r
block_at bytes plan end blocks i x r h few is ok = subst (λ (y : Result Ranged NextFault). IfOk y (IsRanged bytes plan (end i) (end (i + 1)))) (sym is ∙ ok) (h i x few)

pub if_ranged : (bytes : ℕ → Option (List ℕ)) (plan : Plan) (a b c d : ℕ) (x : Result Ranged NextFault) → a ≡ c → b ≡ d → IfOk x (IsRanged bytes plan a b) → IfOk x (IsRanged bytes plan c d)
if_ranged bytes plan a b c d x one two h = subst (λ (n : ℕ). IfOk x (IsRanged bytes plan c n)) two (subst (λ (n : ℕ). IfOk x (IsRanged bytes plan n b)) one h)
