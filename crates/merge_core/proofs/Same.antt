-- What is between two cuts of known texts is determined by them.
use Rattle.std.proofs.Common.{◌≡◌, ℕ, ◌+◌, ◌-◌, ◌≤◌, List, [], ◌∷◌, ◌++◌, length, take, drop, Option, Some, ap, sym, refl, ◌∙◌, subst, arith, length-append}
use Rattle.std.specs.List.{flat_map, AllByRecursion, slice_get}
use Rattle.shape_dict.specs.declared.entries.Entry.{Entry}
use Rattle.shape_dict.specs.declared.entries.Text.{Text}
use Rattle.shape_dict.specs.declared.entries.Text.TheVariants as text
use Rattle.shape_dict.specs.declared.headers.Header.{Header}
use Rattle.shape_dict.specs.Text.{line_text}
use Rattle.shape_dict.specs.Reading.{IsFirst}
use Rattle.shape_dict.specs.Inner.Parsing.{IsPlain, IsSpelled}
use Rattle.shape_dict.proofs.Hexadecimal.{length-word_text}
use Rattle.shape_dict.proofs.Unique.{line_unique}
use Rattle.stream_core.specs.Rows.{IsRow}
use Rattle.merge_core.specs.declared.cuts.Cut.{Cut}
use Rattle.merge_core.specs.declared.cuts.Plan.{Plan}
use Rattle.merge_core.specs.Merge.{AreInputs}
use Rattle.merge_core.specs.Inner.Ranges.{Piece, Each, IsPiece, HasRange, HasRangeAt, found}
use Rattle.merge_core.proofs.Alone.{entries_same}
use Rattle.merge_core.proofs.Rising.{climbs_of}

plain_of : (t : Text) (games : ℕ) (first : Option ℕ) → IsFirst t games first → IsPlain t first
plain_of text.One games first h = h
plain_of text.Two games first h = h
plain_of text.Three games first h = tt

spelled_of : (header : Header) (e : Entry) → IsRow header e → IsSpelled header.text e
spelled_of header e h = record { word = h.word; small = h.small; plain = plain_of header.text header.games e.first h.first }

line_long : (t : Text) (e : Entry) → 13 ≤ length (line_text t e)
line_long t e = let word = length-word_text e.shape in simp length-append (omega arith)

no_line : (t : Text) (e : Entry) (rest : List ℕ) → [] ≡ line_text t e ++ rest → ⊥
no_line t e rest h = omega (arith, ap length h, length-append (line_text t e) rest, line_long t e)

-- lines are those of one list of entries
rows_same : (header : Header) (es fs : List Entry) → AllByRecursion (IsRow header) es → AllByRecursion (IsRow header) fs → flat_map (line_text header.text) es ≡ flat_map (line_text header.text) fs → es ≡ fs
rows_same header [] [] h k same = refl
rows_same header [] (f ∷ fs) h k same = absurd (no_line header.text f (flat_map (line_text header.text) fs) same)
rows_same header (e ∷ es) [] h k same = absurd (no_line header.text e (flat_map (line_text header.text) es) (sym same))
rows_same header (e ∷ es) (f ∷ fs) h k same =
    let one = line_unique header.text e f (flat_map (line_text header.text) es) (flat_map (line_text header.text) fs) (spelled_of header e h.0) (spelled_of header f k.0) same in
    ap (λ (x : Entry). x ∷ es) one.0 ∙ ap (λ (xs : List Entry). f ∷ xs) (rows_same header es fs h.1 k.1 one.1)

same_some : {X : Type 0} (a b : X) (x : Option X) → x ≡ Some a → x ≡ Some b → a ≡ b
same_some {X} a b x h k = let e : Some a ≡ Some b = sym h ∙ k in cc

abbrev piece_by : Header → List Entry → Piece
piece_by header entries = record { header = header; entries = entries }

piece_same : (bytes : ℕ → Option (List ℕ)) (headers : List Header) (low high : Cut) (n : ℕ) (p q : Piece) (text : List ℕ) → IsPiece bytes headers low high n p → IsPiece bytes headers low high n q → bytes n ≡ Some text → p ≡ q
piece_same bytes headers low high n p q text h k known =
    let header : q.header ≡ p.header = same_some q.header p.header (slice_get headers n) k.header h.header in
    let from : k.from ≡ h.from = same_some k.from h.from (slice_get low.places.items n) k.is_from h.is_from in
    let to : k.to ≡ h.to = same_some k.to h.to (slice_get high.places.items n) k.is_to h.is_to in
    let mine = (h.same text known).same in
    let other = (k.same text known).same in
    let places : take (k.to - k.from) (drop k.from text) ≡ take (h.to - h.from) (drop h.from text) =
    ap (λ (m : ℕ). take (m - k.from) (drop k.from text)) to ∙ ap (λ (m : ℕ). take (h.to - m) (drop m text)) from in
    let lines : flat_map (line_text p.header.text) p.entries ≡ flat_map (line_text p.header.text) q.entries =
    mine ∙ (sym places ∙ (sym other ∙ ap (λ (x : Header). flat_map (line_text x.text) q.entries) header)) in
    let rows = subst (λ (x : Header). AllByRecursion (IsRow x) q.entries) header k.rows.each in
    ap (piece_by p.header) (rows_same p.header p.entries q.entries h.rows.each rows lines) ∙ ap (λ (x : Header). piece_by x q.entries) (sym header)

pieces_same : (bytes : ℕ → Option (List ℕ)) (headers : List Header) (low high : Cut) (from : ℕ) (ps qs : List Piece) (inputs : List (List ℕ)) → Each (IsPiece bytes headers low high) from ps → Each (IsPiece bytes headers low high) from qs →
    length ps ≡ length qs → AreInputs bytes from inputs → length inputs ≡ length ps → ps ≡ qs
pieces_same bytes headers low high from [] [] inputs h k same known all = refl
pieces_same bytes headers low high from [] (q ∷ qs) inputs h k same known all = absurd (omega (arith, same))
pieces_same bytes headers low high from (p ∷ ps) [] inputs h k same known all = absurd (omega (arith, same))
pieces_same bytes headers low high from (p ∷ ps) (q ∷ qs) [] h k same known all = absurd (omega (arith, all))
pieces_same bytes headers low high from (p ∷ ps) (q ∷ qs) (i ∷ inputs) h k same known all =
    ap (λ (x : Piece). x ∷ ps) (piece_same bytes headers low high from p q i h.0 k.0 known.0)
    ∙ ap (λ (xs : List Piece). q ∷ xs) (pieces_same bytes headers low high (from + 1) ps qs inputs h.1 k.1 (omega (arith, same)) known.1 (omega (arith, all)))

range_same : (bytes : ℕ → Option (List ℕ)) (headers : List Header) (low high : Cut) (inputs : List (List ℕ)) (h k : HasRange bytes headers low high) → AreInputs bytes 0 inputs → length inputs ≡ length headers → h.joined ≡ k.joined
range_same bytes headers low high inputs h k known all =
    let ps = pieces_same bytes headers low high 0 h.pieces k.pieces inputs h.are k.are (h.number ∙ sym k.number) known (all ∙ sym h.number) in
    entries_same low.word h.joined k.joined (climbs_of low.word high.word h.joined h.sum.rises) (climbs_of low.word high.word k.joined k.sum.rises)
    (λ shape. h.sum.same shape ∙ (ap (found shape) ps ∙ sym (k.sum.same shape)))

-- two joins of one range are the same
pub at_same : (bytes : ℕ → Option (List ℕ)) (plan : Plan) (n : ℕ) (one other : List Entry) (inputs : List (List ℕ)) → HasRangeAt bytes plan n one → HasRangeAt bytes plan n other → AreInputs bytes 0 inputs →
    length inputs ≡ length plan.headers.items → one ≡ other
at_same bytes plan n one other inputs h k known all =
    let low : k.low ≡ h.low = same_some k.low h.low (slice_get plan.cuts.items n) k.is_low h.is_low in
    let high : k.high ≡ h.high = same_some k.high h.high (slice_get plan.cuts.items (n + 1)) k.is_high h.is_high in
    let moved = subst (λ (c : Cut). HasJoin bytes plan.headers.items h.low c other) high (subst (λ (c : Cut). HasJoin bytes plan.headers.items c k.high other) low (k.has, k.same)) in
    sym h.same ∙ (range_same bytes plan.headers.items h.low h.high inputs h.has moved.0 known all ∙ moved.1)
  where
    HasJoin : (ℕ → Option (List ℕ)) → List Header → Cut → Cut → List Entry → Type 0
    HasJoin bytes headers low high joined = (has : HasRange bytes headers low high) × (has.joined ≡ joined)
