-- Dictionaries whose texts were judged range by range, and their join.
use Rattle.std.proofs.Common.{◌≡◌, ℕ, suc, ◌+◌, ◌-◌, ◌≤◌, ◌<◌, ◌^◌, List, [], ◌∷◌, ◌++◌, length, take, drop, Bool, true, false, cond, ltb, Option, Some, ap, sym, refl, ◌∙◌, subst, arith, length-append, append_assoc, unwrap_or}
use Rattle.std.specs.List.{flat_map, AllByRecursion, slice_get}
use Rattle.std.proofs.lemmas.List.{take_at, take_all, append-nil, take-append-drop, length-drop}
use Rattle.std.proofs.lemmas.List.Elements.{All-from_recursion}
use Rattle.std.proofs.lemmas.Bool.Decides.{nat_tests}
use Rattle.shape_core.specs.Symmetry.{least_image}
use Rattle.shape_core.specs.Word.{kind_of}
use Rattle.shape_core.specs.declared.words.Kind.TheVariants as kind
use Rattle.shape_dict.specs.declared.entries.Entry.{Entry}
use Rattle.shape_dict.specs.declared.headers.Header.{Header}
use Rattle.shape_dict.specs.Contents.{squares_of, diamonds_of}
use Rattle.shape_dict.specs.Text.{header_text, line_text}
use Rattle.shape_dict.specs.Reading.{IsHeader, IsLine, AreLines, BeginsWith, IsTextOf, kind_at}
use Rattle.shape_dict.specs.Inner.Reading.{IsRead}
use Rattle.shape_dict.specs.Inner.Merging.{Climbs}
use Rattle.shape_dict.proofs.Climbing.{rises_from_climbs}
use Rattle.shape_dict.proofs.Counted.{both_kinds}
use Rattle.shape_dict.proofs.Read.{text_read, read_same}
use Rattle.stream_core.specs.Rows.{IsRow, AreRows}
use Rattle.stream_core.specs.Streams.{contents_of}
use Rattle.merge_core.specs.declared.cuts.Cut.{Cut}
use Rattle.merge_core.specs.declared.tallies.Tally.{Tally}
use Rattle.merge_core.specs.Inner.Ranges.{IsWithin, Piece, IsPiece, IsTally}
use Rattle.merge_core.specs.Inner.Surveys.{Fits, IsFront, IsWhole}
use Rattle.merge_core.proofs.Rising.{climbs_of}

-- what bytes begin with
pub front_of : (text bytes rest : List ℕ) (header : Header) (most place : ℕ) → IsHeader header → IsWithin text 0 most bytes → bytes ≡ header_text header ++ rest → place ≡ length bytes - length rest → IsFront text header place
front_of text bytes rest header most place is h same at =
    let all : most - 0 ≡ most = omega arith in
    let front : take most text ≡ bytes = ap (λ (n : ℕ). take n text) (sym all) ∙ sym h.same in
    let whole : text ≡ header_text header ++ (rest ++ drop most text) = sym (take-append-drop most text) ∙ (ap (λ (xs : List ℕ). xs ++ drop most text) (front ∙ same) ∙ append_assoc (header_text header) rest (drop most text)) in
    record {
      is_header = is;
      same = ap (take place) whole ∙ take_at (header_text header) (rest ++ drop most text) place (omega (arith, at, ap length same, length-append (header_text header) rest));
    }

-- no square follows a diamond
no_squares : (low : ℕ) (es : List Entry) → 2 ^ 50 ≤ low → Climbs low es → squares_of es ≡ []
no_squares low [] above h = refl
no_squares low (e ∷ es) above h = no_square_by (ltb e.shape (2 ^ 50)) e es refl (omega (arith, above, h.0)) (no_squares (suc e.shape) es (omega (arith, above, h.0)) h.1)
  where
    no_square_by : (b : Bool) (e : Entry) (es : List Entry) → ltb e.shape (2 ^ 50) ≡ b → 2 ^ 50 ≤ e.shape → squares_of es ≡ [] → cond b (e ∷ squares_of es) (squares_of es) ≡ []
    no_square_by true e es is above h = let below : e.shape < 2 ^ 50 = grind (arith, nat_tests) in absurd (omega (arith, above, below))
    no_square_by false e es is above h = h

kind_square : (header : Header) (place word : ℕ) → ltb word (2 ^ 50) ≡ true → place < header.squares → kind_of word ≡ kind_at header place
kind_square header place word is few = let here : ltb place header.squares ≡ true = grind (arith, nat_tests) in ap (λ (b : Bool). cond b kind.Square kind.Diamond) (is ∙ sym here)

kind_diamond : (header : Header) (place word : ℕ) → ltb word (2 ^ 50) ≡ false → header.squares ≤ place → kind_of word ≡ kind_at header place
kind_diamond header place word is few = let here : ltb place header.squares ≡ false = grind (arith, nat_tests) in ap (λ (b : Bool). cond b kind.Square kind.Diamond) (is ∙ sym here)

line_of : (header : Header) (place : ℕ) (e : Entry) → IsRow header e → kind_of e.shape ≡ kind_at header place → IsLine header place e
line_of header place e h is = record { word = h.word; kind = is; there = h.there; played = h.played; small = h.small; first = h.first }

no_cons : (e : Entry) (es : List Entry) → e ∷ es ≡ [] → ⊥
no_cons e es h = cc

diamond_first : (header : Header) (place : ℕ) (e : Entry) (es : List Entry) (b : Bool) → ltb e.shape (2 ^ 50) ≡ b → IsRow header e → header.squares ≤ place → (squares_of es ≡ [] → AreLines header (place + 1) es) → cond b (e ∷ squares_of es) (squares_of es) ≡ [] → AreLines header place (e ∷ es)
diamond_first header place e es true is row few rest none = absurd (no_cons e (squares_of es) none)
diamond_first header place e es false is row few rest none = (line_of header place e row (kind_diamond header place e.shape is few), rest none)

-- where there are as many squares as the header says, each line stands where its kind may
lines_of_rows : (header : Header) (place low : ℕ) (es : List Entry) → AllByRecursion (IsRow header) es → Climbs low es → header.squares ≤ place → squares_of es ≡ [] → AreLines header place es
lines_of_rows header place low [] rows h few none = tt
lines_of_rows header place low (e ∷ es) rows h few none =
    diamond_first header place e es (ltb e.shape (2 ^ 50)) refl rows.0 few (λ k. lines_of_rows header (place + 1) (suc e.shape) es rows.1 h.1 (omega (arith, few)) k) none

any_first : (header : Header) (place : ℕ) (e : Entry) (es : List Entry) (b : Bool) → ltb e.shape (2 ^ 50) ≡ b → AllByRecursion (IsRow header) (e ∷ es) → Climbs (suc e.shape) es → (header.squares ≡ place + 1 + length (squares_of es) → AreLines header (place + 1) es) →
    header.squares ≡ place + length (cond b (e ∷ squares_of es) (squares_of es)) → AreLines header place (e ∷ es)
any_first header place e es true is rows h rest many = (line_of header place e rows.0 (kind_square header place e.shape is (omega (arith, many))), rest (omega (arith, many)))
any_first header place e es false is rows h rest many =
    let above : 2 ^ 50 ≤ e.shape = grind (arith, nat_tests) in
    let none = no_squares (suc e.shape) es (omega (arith, above)) h in
    let few : header.squares ≤ place = omega (arith, many, ap length none) in
    (line_of header place e rows.0 (kind_diamond header place e.shape is few), lines_of_rows header (place + 1) (suc e.shape) es rows.1 h (omega (arith, few)) none)

all_lines : (header : Header) (place low : ℕ) (es : List Entry) → AllByRecursion (IsRow header) es → Climbs low es → header.squares ≡ place + length (squares_of es) → AreLines header place es
all_lines header place low [] rows h many = tt
all_lines header place low (e ∷ es) rows h many =
    any_first header place e es (ltb e.shape (2 ^ 50)) refl rows h.1 (λ k. all_lines header (place + 1) (suc e.shape) es rows.1 h.1 k) many

canonical_of : (header : Header) (es : List Entry) → AllByRecursion (IsRow header) es → AllByRecursion (λ e. least_image e.shape ≡ e.shape) es
canonical_of header [] h = tt
canonical_of header (e ∷ es) h = (h.0.canonical, canonical_of header es h.1)

-- a header and all its lines are a text
text_of_rows : (text : List ℕ) (header : Header) (low high from to : ℕ) (es : List Entry) (tally : Tally) → AreRows header low high es → IsTally es tally → Fits header tally → IsFront text header from →
    IsWithin text from to (flat_map (line_text header.text) es) → length text ≤ to → IsTextOf (contents_of header es) text
text_of_rows text header low high from to es tally rows tallied fits front lines end =
    let climbs = climbs_of low high es rows.rises in
    let squares : length (squares_of es) ≡ header.squares = sym tallied.squares ∙ fits.squares in
    let diamonds : length (diamonds_of es) ≡ unwrap_or header.diamonds 0 = sym tallied.diamonds ∙ fits.diamonds in
    let rest : take (to - from) (drop from text) ≡ drop from text = take_all (to - from) (drop from text) (omega (arith, length-drop from text, end)) in
    let rest_is : drop from text ≡ flat_map (line_text header.text) es = sym rest ∙ sym lines.same in
    let both : text ≡ header_text header ++ flat_map (line_text header.text) es =
    sym (take-append-drop from text) ∙ (ap (λ (xs : List ℕ). xs ++ drop from text) front.same ∙ ap (λ (xs : List ℕ). header_text header ++ xs) rest_is) in
    let whole : text ≡ header_text header ++ flat_map (line_text header.text) es ++ [] = both ∙ sym (append-nil (header_text header ++ flat_map (line_text header.text) es)) in
    let begins : BeginsWith text header es [] = record {
      is_header = front.is_header;
      lines = all_lines header 0 low es rows.each climbs (omega (arith, squares));
      shapes = record { rises = rises_from_climbs low es climbs; canonical = All-from_recursion (λ e. least_image e.shape ≡ e.shape) es (canonical_of header es rows.each) };
      few = omega (arith, both_kinds es, squares, diamonds);
      same = whole;
    } in
    let r : IsRead text (contents_of header es) [] = record {
      header = header;
      lines = record { begins = begins; all = omega (arith, both_kinds es, squares, diamonds) };
      totals = record {
        squares = sym tallied.squares_played ∙ fits.squares_played;
        diamonds = λ counted. sym tallied.diamonds_played ∙ fits.diamonds_played counted;
        no_games = fits.no_games;
      };
      games = refl;
      moves = refl;
      kinds = refl;
    } in
    subst (λ (xs : List ℕ). IsTextOf (contents_of header es) xs) (sym (read_same text [] (contents_of header es) r ∙ append-nil _)) (text_read text [] (contents_of header es) r)

same_some : {X : Type 0} (a b : X) (x : Option X) → x ≡ Some a → x ≡ Some b → a ≡ b
same_some {X} a b x h k = let e : Some a ≡ Some b = sym h ∙ k in cc

-- the piece between the first cut and the last is a dictionary, and the text is one of it
pub text_of_piece : (bytes : ℕ → Option (List ℕ)) (headers : List Header) (low high : Cut) (n : ℕ) (p : Piece) (tally : Tally) (text : List ℕ) → IsPiece bytes headers low high n p → IsTally p.entries tally →
    IsWhole bytes headers low high n tally → bytes n ≡ Some text → IsTextOf (contents_of p.header p.entries) text
text_of_piece bytes headers low high n p tally text h tallied w known =
    let header : w.header ≡ p.header = same_some w.header p.header (slice_get headers n) w.is_header h.header in
    let from : w.from ≡ h.from = same_some w.from h.from (slice_get low.places.items n) w.is_from h.is_from in
    let to : w.to ≡ h.to = same_some w.to h.to (slice_get high.places.items n) w.is_to h.is_to in
    let front = subst (λ (x : Header). IsFront text x h.from) header (subst (λ (m : ℕ). IsFront text w.header m) from (w.front text known)) in
    let fits = subst (λ (x : Header). Fits x tally) header w.fits in
    text_of_rows text p.header low.word high.word h.from h.to p.entries tally h.rows tallied fits front (h.same text known) (subst (λ (m : ℕ). length text ≤ m) to (w.end text known))
