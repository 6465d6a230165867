-- There is one way to read a text: no text begins another one, and one text is of one dictionary.
use Rattle.std.proofs.Common.{◌≡◌, ℕ, ◌+◌, ◌<◌, ◌≤◌, ◌^◌, inl, List, [], ◌∷◌, ◌++◌, length, get_or, sym, refl, ap, ◌∙◌, subst, arith, append_assoc, Option, Some, None, IfSome, codes}
use Rattle.std.specs.List.{flat_map}
use Rattle.std.specs.Fmt.{decimal}
use Rattle.std.proofs.lemmas.List.{append_cancel_left, append-nil, length-append}
use Rattle.shape_dict.specs.declared.entries.Entry.{Entry}
use Rattle.shape_dict.specs.declared.entries.Text.{Text}
use Rattle.shape_dict.specs.declared.entries.Text.TheVariants as text
use Rattle.shape_dict.specs.declared.headers.Header.{Header}
use Rattle.shape_dict.specs.Text.{header_text, front_text, counts_text, line_text, word_text, first_text, line_feed, optional_number}
use Rattle.shape_dict.specs.Inner.Parsing.{IsEnded, IsPlain, IsSpelled}
use Rattle.shape_dict.specs.Reading.{IsHeader, IsLine, IsFirst, AreLines, BeginsWith}
use Rattle.shape_dict.proofs.Decimals.{number_unique, no_dash}
use Rattle.shape_dict.proofs.Hexadecimal.{word_unique}

optional_unique : (m n : Option ℕ) (r s : List ℕ) → IfSome m (λ x. x < 2 ^ 64) → IfSome n (λ x. x < 2 ^ 64) → IsEnded r → IsEnded s → optional_number m ++ r ≡ optional_number n ++ s → (m ≡ n) × (r ≡ s)
optional_unique None None r s h k ended over e = (refl, cc)
optional_unique None (Some n) r s h k ended over e = absurd (no_dash n s r k (sym e))
optional_unique (Some m) None r s h k ended over e = absurd (no_dash m r s h e)
optional_unique (Some m) (Some n) r s h k ended over e = let p = number_unique m n r s h k ended over e in (ap Some p.0, p.1)

-- a line's parts in a row
line_parts : (t : Text) (e : Entry) (left : List ℕ) → line_text t e ++ left ≡ word_text e.shape ++ (codes " " ++ (decimal e.there ++ (codes " " ++ (decimal e.played ++ (first_text t e.first ++ (line_feed ++ left))))))
line_parts t e left = simp append_assoc

feed_ended : (left : List ℕ) → IsEnded (line_feed ++ left)
feed_ended left = inl (omega arith)

first_ended : (t : Text) (first : Option ℕ) (left : List ℕ) → IsEnded (first_text t first ++ (line_feed ++ left))
first_ended text.One first left = inl (omega arith)
first_ended text.Two first left = inl (omega arith)
first_ended text.Three first left = inl (omega arith)

first_unique : (t : Text) (m n : Option ℕ) (r s : List ℕ) → IsPlain t m → IsPlain t n → IfSome m (λ x. x < 2 ^ 64) → IfSome n (λ x. x < 2 ^ 64) → first_text t m ++ (line_feed ++ r) ≡ first_text t n ++ (line_feed ++ s) → (m ≡ n) × (r ≡ s)
first_unique text.One m n r s p q h k e = (p ∙ sym q, cc)
first_unique text.Two m n r s p q h k e = (p ∙ sym q, cc)
first_unique text.Three m n r s p q h k e =
    let rest : optional_number m ++ (line_feed ++ r) ≡ optional_number n ++ (line_feed ++ s) = cc in
    let both = optional_unique m n (line_feed ++ r) (line_feed ++ s) h k (feed_ended r) (feed_ended s) rest in
    let tail = both.1 in
    (both.0, cc)

abbrev entry_by : ℕ → ℕ → ℕ → Option ℕ → Entry
entry_by shape there played first = record { shape = shape; there = there; played = played; first = first }

same_entry : (d e : Entry) → d.shape ≡ e.shape → d.there ≡ e.there → d.played ≡ e.played → d.first ≡ e.first → d ≡ e
same_entry d e a b c f =
    ap (λ (x : ℕ). entry_by x d.there d.played d.first) a ∙ (ap (λ (x : ℕ). entry_by e.shape x d.played d.first) b
    ∙ (ap (λ (x : ℕ). entry_by e.shape e.there x d.first) c ∙ ap (λ (x : Option ℕ). entry_by e.shape e.there e.played x) f))

pub line_unique : (t : Text) (d e : Entry) (r s : List ℕ) → IsSpelled t d → IsSpelled t e → line_text t d ++ r ≡ line_text t e ++ s → (d ≡ e) × (r ≡ s)
line_unique t d e r s h k same =
    let all = sym (line_parts t d r) ∙ (same ∙ line_parts t e s) in
    let word = word_unique d.shape e.shape (codes " " ++ (decimal d.there ++ (codes " " ++ (decimal d.played ++ (first_text t d.first ++ (line_feed ++ r)))))) (codes " " ++ (decimal e.there ++ (codes " " ++ (decimal e.played ++ (first_text t e.first ++ (line_feed ++ s)))))) (let a = h.word in omega arith) (let a = k.word in omega arith) all in
    let after_word = append_cancel_left (codes " ") (decimal d.there ++ (codes " " ++ (decimal d.played ++ (first_text t d.first ++ (line_feed ++ r))))) (decimal e.there ++ (codes " " ++ (decimal e.played ++ (first_text t e.first ++ (line_feed ++ s))))) word.1 in
    let there = number_unique d.there e.there (codes " " ++ (decimal d.played ++ (first_text t d.first ++ (line_feed ++ r)))) (codes " " ++ (decimal e.played ++ (first_text t e.first ++ (line_feed ++ s)))) h.small.0 k.small.0 (inl (omega arith)) (inl (omega arith)) after_word in
    let after_there = append_cancel_left (codes " ") (decimal d.played ++ (first_text t d.first ++ (line_feed ++ r))) (decimal e.played ++ (first_text t e.first ++ (line_feed ++ s))) there.1 in
    let played = number_unique d.played e.played (first_text t d.first ++ (line_feed ++ r)) (first_text t e.first ++ (line_feed ++ s)) h.small.1 k.small.1 (first_ended t d.first r) (first_ended t e.first s) after_there in
    let first = first_unique t d.first e.first r s h.plain k.plain h.small.2 k.small.2 played.1 in
    (same_entry d e word.0 there.0 played.0 first.0, first.1)

-- headers
header_parts : (h : Header) (left : List ℕ) → header_text h ++ left ≡ front_text h.text ++ (decimal h.games ++ (codes " moves " ++ (decimal h.moves ++ (counts_text h.text h.squares h.diamonds ++ (line_feed ++ left)))))
header_parts h left = simp append_assoc

front_unique : (t u : Text) (r s : List ℕ) → front_text t ++ r ≡ front_text u ++ s → (t ≡ u) × (r ≡ s)
front_unique text.One text.One r s e = (refl, append_cancel_left (codes "shapes 1 games ") r s e)
front_unique text.One text.Two r s e = absurd (let at = ap (λ (x : List ℕ). get_or x 7 0) e in omega arith)
front_unique text.One text.Three r s e = absurd (let at = ap (λ (x : List ℕ). get_or x 7 0) e in omega arith)
front_unique text.Two text.One r s e = absurd (let at = ap (λ (x : List ℕ). get_or x 7 0) e in omega arith)
front_unique text.Two text.Two r s e = (refl, append_cancel_left (codes "shapes 2 games ") r s e)
front_unique text.Two text.Three r s e = absurd (let at = ap (λ (x : List ℕ). get_or x 7 0) e in omega arith)
front_unique text.Three text.One r s e = absurd (let at = ap (λ (x : List ℕ). get_or x 7 0) e in omega arith)
front_unique text.Three text.Two r s e = absurd (let at = ap (λ (x : List ℕ). get_or x 7 0) e in omega arith)
front_unique text.Three text.Three r s e = (refl, append_cancel_left (codes "shapes 3 games ") r s e)

counts_ended : (t : Text) (squares : ℕ) (diamonds : Option ℕ) (left : List ℕ) → IsEnded (counts_text t squares diamonds ++ left)
counts_ended text.One squares diamonds left = inl (omega arith)
counts_ended text.Two squares diamonds left = inl (omega arith)
counts_ended text.Three squares diamonds left = inl (omega arith)

two_counts : (m n : ℕ) (x y : Option ℕ) (r s : List ℕ) → m < 2 ^ 64 → n < 2 ^ 64 → IfSome x (λ x. x < 2 ^ 64) → IfSome y (λ x. x < 2 ^ 64) → (codes " squares " ++ decimal m ++ codes " diamonds " ++ optional_number x) ++ (line_feed ++ r) ≡ (codes " squares " ++ decimal n ++ codes " diamonds " ++ optional_number y) ++ (line_feed ++ s) → (m ≡ n) × (x ≡ y) × (r ≡ s)
two_counts m n x y r s hm hn hx hy e =
    let left : (codes " squares " ++ decimal m ++ codes " diamonds " ++ optional_number x) ++ (line_feed ++ r) ≡ codes " squares " ++ (decimal m ++ (codes " diamonds " ++ (optional_number x ++ (line_feed ++ r)))) = simp append_assoc in
    let right : (codes " squares " ++ decimal n ++ codes " diamonds " ++ optional_number y) ++ (line_feed ++ s) ≡ codes " squares " ++ (decimal n ++ (codes " diamonds " ++ (optional_number y ++ (line_feed ++ s)))) = simp append_assoc in
    let first = append_cancel_left (codes " squares ") (decimal m ++ (codes " diamonds " ++ (optional_number x ++ (line_feed ++ r)))) (decimal n ++ (codes " diamonds " ++ (optional_number y ++ (line_feed ++ s)))) (sym left ∙ (e ∙ right)) in
    let squares = number_unique m n (codes " diamonds " ++ (optional_number x ++ (line_feed ++ r))) (codes " diamonds " ++ (optional_number y ++ (line_feed ++ s))) hm hn (inl (omega arith)) (inl (omega arith)) first in
    let second = append_cancel_left (codes " diamonds ") (optional_number x ++ (line_feed ++ r)) (optional_number y ++ (line_feed ++ s)) squares.1 in
    let diamonds = optional_unique x y (line_feed ++ r) (line_feed ++ s) hx hy (feed_ended r) (feed_ended s) second in
    (squares.0, diamonds.0, append_cancel_left line_feed r s diamonds.1)

counts_unique : (t : Text) (m n : ℕ) (x y : Option ℕ) (r s : List ℕ) → m < 2 ^ 64 → n < 2 ^ 64 → IfSome x (λ x. x < 2 ^ 64) → IfSome y (λ x. x < 2 ^ 64) → (t ≡ text.One → x ≡ None) → (t ≡ text.One → y ≡ None) → counts_text t m x ++ (line_feed ++ r) ≡ counts_text t n y ++ (line_feed ++ s) → (m ≡ n) × (x ≡ y) × (r ≡ s)
counts_unique text.One m n x y r s hm hn hx hy fx fy e =
    let left = append_assoc (codes " patterns ") (decimal m) (line_feed ++ r) in
    let right = append_assoc (codes " patterns ") (decimal n) (line_feed ++ s) in
    let first = append_cancel_left (codes " patterns ") (decimal m ++ (line_feed ++ r)) (decimal n ++ (line_feed ++ s)) (sym left ∙ (e ∙ right)) in
    let squares = number_unique m n (line_feed ++ r) (line_feed ++ s) hm hn (feed_ended r) (feed_ended s) first in
    (squares.0, fx refl ∙ sym (fy refl), append_cancel_left line_feed r s squares.1)
counts_unique text.Two m n x y r s hm hn hx hy fx fy e = two_counts m n x y r s hm hn hx hy e
counts_unique text.Three m n x y r s hm hn hx hy fx fy e = two_counts m n x y r s hm hn hx hy e

abbrev header_by : Text → ℕ → ℕ → ℕ → Option ℕ → Header
header_by t games moves squares diamonds = record { text = t; games = games; moves = moves; squares = squares; diamonds = diamonds }

same_header : (g h : Header) → g.text ≡ h.text → g.games ≡ h.games → g.moves ≡ h.moves → g.squares ≡ h.squares → g.diamonds ≡ h.diamonds → g ≡ h
same_header g h a b c d e =
    ap (λ (x : Text). header_by x g.games g.moves g.squares g.diamonds) a ∙ (ap (λ (x : ℕ). header_by h.text x g.moves g.squares g.diamonds) b
    ∙ (ap (λ (x : ℕ). header_by h.text h.games x g.squares g.diamonds) c ∙ (ap (λ (x : ℕ). header_by h.text h.games h.moves x g.diamonds) d
    ∙ ap (λ (x : Option ℕ). header_by h.text h.games h.moves h.squares x) e)))

pub header_unique : (g h : Header) (r s : List ℕ) → IsHeader g → IsHeader h → header_text g ++ r ≡ header_text h ++ s → (g ≡ h) × (r ≡ s)
header_unique g h r s p q e =
    let all = sym (header_parts g r) ∙ (e ∙ header_parts h s) in
    let front = front_unique g.text h.text (decimal g.games ++ (codes " moves " ++ (decimal g.moves ++ (counts_text g.text g.squares g.diamonds ++ (line_feed ++ r))))) (decimal h.games ++ (codes " moves " ++ (decimal h.moves ++ (counts_text h.text h.squares h.diamonds ++ (line_feed ++ s))))) all in
    let games = number_unique g.games h.games (codes " moves " ++ (decimal g.moves ++ (counts_text g.text g.squares g.diamonds ++ (line_feed ++ r)))) (codes " moves " ++ (decimal h.moves ++ (counts_text h.text h.squares h.diamonds ++ (line_feed ++ s)))) p.games q.games (inl (omega arith)) (inl (omega arith)) front.1 in
    let after_games = append_cancel_left (codes " moves ") (decimal g.moves ++ (counts_text g.text g.squares g.diamonds ++ (line_feed ++ r))) (decimal h.moves ++ (counts_text h.text h.squares h.diamonds ++ (line_feed ++ s))) games.1 in
    let moves = number_unique g.moves h.moves (counts_text g.text g.squares g.diamonds ++ (line_feed ++ r)) (counts_text h.text h.squares h.diamonds ++ (line_feed ++ s)) p.moves q.moves (counts_ended g.text g.squares g.diamonds (line_feed ++ r)) (counts_ended h.text h.squares h.diamonds (line_feed ++ s)) after_games in
    let same_text : counts_text g.text g.squares g.diamonds ++ (line_feed ++ r) ≡ counts_text g.text h.squares h.diamonds ++ (line_feed ++ s) = moves.1 ∙ ap (λ (t : Text). counts_text t h.squares h.diamonds ++ (line_feed ++ s)) (sym front.0) in
    let counts = counts_unique g.text g.squares h.squares g.diamonds h.diamonds r s p.squares q.squares p.diamonds q.diamonds p.first_text (λ one. q.first_text (sym front.0 ∙ one)) same_text in
    (same_header g h front.0 games.0 moves.0 counts.0 counts.1, counts.2)

-- lines
plain_of : (t : Text) (games : ℕ) (first : Option ℕ) → IsFirst t games first → IsPlain t first
plain_of text.One games first h = h
plain_of text.Two games first h = h
plain_of text.Three games first h = tt

pub spelled : (header : Header) (place : ℕ) (e : Entry) → IsLine header place e → IsSpelled header.text e
spelled header place e h = record { word = h.word; small = h.small; plain = plain_of header.text header.games e.first h.first }

pub lines_unique : (header : Header) (place : ℕ) (es fs : List Entry) (r s : List ℕ) → AreLines header place es → AreLines header place fs → length es ≤ length fs → flat_map (line_text header.text) es ++ r ≡ flat_map (line_text header.text) fs ++ s → (more : List Entry) × (fs ≡ es ++ more) × (r ≡ flat_map (line_text header.text) more ++ s)
lines_unique header place [] fs r s h k few e = (fs, refl, e)
lines_unique header place (d ∷ es) [] r s h k few e = absurd (omega arith)
lines_unique header place (d ∷ es) (f ∷ fs) r s h k few e =
    let left = append_assoc (line_text header.text d) (flat_map (line_text header.text) es) r in
    let right = append_assoc (line_text header.text f) (flat_map (line_text header.text) fs) s in
    let one = line_unique header.text d f (flat_map (line_text header.text) es ++ r) (flat_map (line_text header.text) fs ++ s) (spelled header place d h.0) (spelled header place f k.0) (sym left ∙ (e ∙ right)) in
    let rest = lines_unique header (place + 1) es fs r s h.1 k.1 (omega arith) one.1 in
    (rest.0, (ap (λ (x : Entry). x ∷ fs) (sym one.0) ∙ ap (λ (x : List Entry). d ∷ x) rest.1), rest.2)

-- two ways to begin go together as far as the shorter one
pub begun_unique : (bytes : List ℕ) (g h : Header) (es fs : List Entry) (r s : List ℕ) → BeginsWith bytes g es r → BeginsWith bytes h fs s → length es ≤ length fs → (g ≡ h) × ((more : List Entry) × (fs ≡ es ++ more) × (r ≡ flat_map (line_text g.text) more ++ s))
begun_unique bytes g h es fs r s p q few =
    let left = append_assoc (header_text g) (flat_map (line_text g.text) es) r in
    let right = append_assoc (header_text h) (flat_map (line_text h.text) fs) s in
    let head = header_unique g h (flat_map (line_text g.text) es ++ r) (flat_map (line_text h.text) fs ++ s) p.is_header q.is_header (sym left ∙ (sym p.same ∙ (q.same ∙ right))) in
    let lines = subst (λ (x : Header). AreLines x 0 fs) (sym head.0) q.lines in
    let rest = head.1 ∙ ap (λ (x : Header). flat_map (line_text x.text) fs ++ s) (sym head.0) in
    (head.0, lines_unique g 0 es fs r s p.lines lines few rest)

pub header_same : (bytes : List ℕ) (g h : Header) (es fs : List Entry) (r s : List ℕ) → BeginsWith bytes g es r → BeginsWith bytes h fs s → g ≡ h
header_same bytes g h es fs r s p q =
    let left = append_assoc (header_text g) (flat_map (line_text g.text) es) r in
    let right = append_assoc (header_text h) (flat_map (line_text h.text) fs) s in
    (header_unique g h (flat_map (line_text g.text) es ++ r) (flat_map (line_text h.text) fs ++ s) p.is_header q.is_header (sym left ∙ (sym p.same ∙ (q.same ∙ right)))).0

none_more : (es more : List Entry) → length es ≡ length (es ++ more) → more ≡ []
none_more es [] h = refl
none_more es (e ∷ more) h = let l = length-append es (e ∷ more) in absurd (omega arith)

-- two ways to begin with as many lines are one
pub begun_same : (bytes : List ℕ) (g h : Header) (es fs : List Entry) (r s : List ℕ) → BeginsWith bytes g es r → BeginsWith bytes h fs s → length es ≡ length fs → (g ≡ h) × (fs ≡ es) × (r ≡ s)
begun_same bytes g h es fs r s p q same =
    let u = begun_unique bytes g h es fs r s p q (omega arith) in
    let none = none_more es u.1.0 (same ∙ ap length u.1.1) in
    (u.0, u.1.1 ∙ (ap (λ (x : List Entry). es ++ x) none ∙ append-nil es), u.1.2 ∙ ap (λ (x : List Entry). flat_map (line_text g.text) x ++ s) none)
