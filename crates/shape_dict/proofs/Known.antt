-- Bytes that begin with a text of a dictionary are read as that dictionary, without a fault.
use Rattle.std.proofs.Common.{◌≡◌, ℕ, suc, ◌+◌, ◌-◌, ◌<◌, ◌≤◌, ◌^◌, List, [], ◌∷◌, ◌++◌, length, take, drop, sym, refl, ap, ◌∙◌, subst, arith, Option, None, IfSome, Bool, true, false, cond, ltb, is_some, unwrap_or}
use Rattle.std.specs.List.{flat_map, AllByRecursion}
use Rattle.std.proofs.lemmas.List.{length-drop, take-append-drop, append_cancel_right}
use Rattle.std.proofs.lemmas.List.Elements.{recursion_from_All}
use Rattle.std.proofs.lemmas.Bool.Decides.{nat_tests}
use Rattle.shape_core.specs.Word.{kind_of}
use Rattle.shape_core.specs.declared.words.Kind.TheVariants as kind
use Rattle.shape_dict.specs.declared.entries.Entry.{Entry}
use Rattle.shape_dict.specs.declared.entries.Text.{Text}
use Rattle.shape_dict.specs.declared.entries.Text.TheVariants as text
use Rattle.shape_dict.specs.declared.headers.Header.{Header}
use Rattle.shape_dict.specs.Contents.{Contents, HasTotals, IsEntry, squares_of, diamonds_of}
use Rattle.shape_dict.specs.Text.{header_text, line_text, header_of, IsWhole, IsSmallEntry, diamonds_counted}
use Rattle.shape_dict.specs.Reading.{IsFirst, AreLines, HasMore, IsTextOf, lines_after, counts_of, kind_at}
use Rattle.shape_dict.specs.Inner.Reading.{IsRead}
use Rattle.shape_dict.specs.Inner.Merging.{Climbs}
use Rattle.shape_dict.proofs.Climbing.{climbs_from_rises}
use Rattle.shape_dict.proofs.Read.{entries_are, both_kinds}
use Rattle.shape_dict.proofs.Unique.{begun_same, header_same}

-- no square is above a diamond
no_squares : (least : ℕ) (es : List Entry) → 2 ^ 50 ≤ least → Climbs least es → squares_of es ≡ []
no_squares least [] low h = refl
no_squares least (e ∷ es) low h =
    let more = no_squares (suc e.shape) es (omega arith) h.1 in
    let large : ltb e.shape (2 ^ 50) ≡ false = grind (arith, nat_tests) in
    ap (λ b. cond b (e ∷ squares_of es) (squares_of es)) large ∙ more

first_in : (t : Text) (games : ℕ) (first : Option ℕ) → IfSome first (λ game. game < games) → ((t ≡ text.Three → ⊥) → first ≡ None) → IsFirst t games first
first_in text.One games first h plain = plain (λ e. cc)
first_in text.Two games first h plain = plain (λ e. cc)
first_in text.Three games first h plain = h

kind_is : (header : Header) (place shape : ℕ) → ltb shape (2 ^ 50) ≡ ltb place header.squares → kind_of shape ≡ kind_at header place
kind_is header place shape e = ap (λ b. cond b kind.Square kind.Diamond) e

place_by : (b : Bool) (header : Header) (place : ℕ) (e : Entry) (es : List Entry) → Climbs (suc e.shape) es → ltb e.shape (2 ^ 50) ≡ b → length (cond b (e ∷ squares_of es) (squares_of es)) ≡ header.squares - place → (ltb e.shape (2 ^ 50) ≡ ltb place header.squares) × (length (squares_of es) ≡ header.squares - (place + 1))
place_by true header place e es h is count =
    let inside : ltb place header.squares ≡ true = grind (arith, nat_tests) in (is ∙ sym inside, omega arith)
place_by false header place e es h is count =
    let large : 2 ^ 50 ≤ e.shape = grind (arith, nat_tests) in
    let none = ap length (no_squares (suc e.shape) es (omega arith) h) in
    let outside : ltb place header.squares ≡ false = grind (arith, nat_tests) in (is ∙ sym outside, omega arith)

-- rising entries are lines, the squares first
lines_from : (header : Header) (place least : ℕ) (es : List Entry) → Climbs least es → AllByRecursion (IsEntry header.games) es → AllByRecursion IsSmallEntry es → ((header.text ≡ text.Three → ⊥) → AllByRecursion (λ e. e.first ≡ None) es) → length (squares_of es) ≡ header.squares - place → AreLines header place es
lines_from header place least [] h each small plain count = tt
lines_from header place least (e ∷ es) h each small plain count =
    let p = place_by (ltb e.shape (2 ^ 50)) header place e es h.1 refl count in (
      record {
        word = each.0.word;
        kind = kind_is header place e.shape p.0;
        there = each.0.there;
        played = each.0.played;
        small = small.0;
        first = first_in header.text header.games e.first each.0.first (λ other. (plain other).0);
      },
      lines_from header (place + 1) (suc e.shape) es h.1 each.1 small.1 (λ other. (plain other).1) p.1,
    )

plain_entries : (t : Text) (d : Contents) → IsWhole t d → (t ≡ text.Three → ⊥) → AllByRecursion (λ e. e.first ≡ None) d.entries
plain_entries text.One d whole other = recursion_from_All (λ e. e.first ≡ None) d.entries whole.1
plain_entries text.Two d whole other = recursion_from_All (λ e. e.first ≡ None) d.entries whole
plain_entries text.Three d whole other = absurd (other refl)

counted_small : (b : Bool) (es : List Entry) → length (diamonds_of es) < 2 ^ 64 → IfSome (diamonds_counted b es) (λ n. n < 2 ^ 64)
counted_small true es h = h
counted_small false es h = tt

counts_are : (b : Bool) (es : List Entry) → is_some (diamonds_counted b es) ≡ b
counts_are true es = refl
counts_are false es = refl

all_counted : (b : Bool) (es : List Entry) → (b ≡ false → diamonds_of es ≡ []) → unwrap_or (diamonds_counted b es) 0 ≡ length (diamonds_of es)
all_counted true es h = refl
all_counted false es h = sym (ap length (h refl))

first_whole : (t : Text) (d : Contents) → IsWhole t d → t ≡ text.One → diamonds_counted d.counts_diamonds d.entries ≡ None
first_whole text.One d whole e = ap (λ b. diamonds_counted b d.entries) whole.0
first_whole text.Two d whole e = cc
first_whole text.Three d whole e = cc

pub known : (bytes front left : List ℕ) (d : Contents) → IsTextOf d front → bytes ≡ front ++ left → IsRead bytes d left
known bytes front left d t e =
    let header = header_of t.text d in
    let is = t.dictionary in
    let both = both_kinds d.entries in
    let counted = all_counted d.counts_diamonds d.entries is.uncounted in
    let entries = entries_are t.text d is t.whole in
    let all : length d.entries ≡ lines_after header = omega arith in
    record {
      header = header;
      lines = record {
        begins = record {
          is_header = record { games = t.small.games; moves = t.small.moves; squares = t.small.squares; diamonds = counted_small d.counts_diamonds d.entries t.small.diamonds; first_text = first_whole t.text d t.whole };
          lines = lines_from header 0 0 d.entries (climbs_from_rises d.entries is.rises) (recursion_from_All (IsEntry d.games) d.entries is.each) (recursion_from_All IsSmallEntry d.entries t.small.each) (plain_entries t.text d t.whole) (omega arith);
          shapes = record { rises = is.rises; canonical = λ k x small. (is.each k x small).canonical };
          few = omega arith;
          same = e ∙ (ap (λ x. x ++ left) t.same ∙ ap (λ (es : List Entry). header_text header ++ flat_map (line_text t.text) es ++ left) entries);
        };
        all = all;
      };
      totals = subst (λ (b : Bool). HasTotals d.games d.moves d.entries b) (sym (counts_are d.counts_diamonds d.entries)) is.totals;
      games = refl;
      moves = refl;
      kinds = sym (counts_are d.counts_diamonds d.entries);
    }

abbrev contents_by : ℕ → ℕ → List Entry → Bool → Contents
contents_by games moves entries counts = record { games = games; moves = moves; entries = entries; counts_diamonds = counts }

same_contents : (c d : Contents) → c.games ≡ d.games → c.moves ≡ d.moves → c.entries ≡ d.entries → c.counts_diamonds ≡ d.counts_diamonds → c ≡ d
same_contents c d g m e b =
    ap (λ (x : ℕ). contents_by x c.moves c.entries c.counts_diamonds) g ∙ (ap (λ (x : ℕ). contents_by d.games x c.entries c.counts_diamonds) m
    ∙ (ap (λ (x : List Entry). contents_by d.games d.moves x c.counts_diamonds) e ∙ ap (λ (x : Bool). contents_by d.games d.moves d.entries x) b))

-- what is read is read in one way
pub read_unique : (bytes : List ℕ) (c d : Contents) (r s : List ℕ) → IsRead bytes c r → IsRead bytes d s → (c ≡ d) × (r ≡ s)
read_unique bytes c d r s p q =
    let head = header_same bytes p.header q.header c.entries d.entries r s p.lines.begins q.lines.begins in
    let count : length c.entries ≡ length d.entries = p.lines.all ∙ (ap lines_after head ∙ sym q.lines.all) in
    let u = begun_same bytes p.header q.header c.entries d.entries r s p.lines.begins q.lines.begins count in
    (same_contents c d (p.games ∙ (ap (λ (x : Header). x.games) head ∙ sym q.games)) (p.moves ∙ (ap (λ (x : Header). x.moves) head ∙ sym q.moves)) (sym u.1) (p.kinds ∙ (ap counts_of head ∙ sym q.kinds)), u.2)

-- bytes follow a text
pub more_after : (bytes : List ℕ) (d : Contents) (count : ℕ) → IsTextOf d (take count bytes) → count < length bytes → HasMore bytes (length d.entries + 2)
more_after bytes d count is short =
    let read = known bytes (take count bytes) (drop count bytes) d is (sym (take-append-drop count bytes)) in
    record {
      header = read.header;
      entries = d.entries;
      left = drop count bytes;
      lines = read.lines;
      totals = read.totals;
      more = λ none. (let nothing = ap length none in let long = length-drop count bytes in omega arith);
      at = ap (λ n. n + 2) read.lines.all;
    }

pub texts_distinct : (one other : Contents) (x y p q : List ℕ) → IsTextOf one x → IsTextOf other y → x ++ p ≡ y ++ q → (x ≡ y) × (one ≡ other)
texts_distinct one other x y p q h k e =
    let u = read_unique (x ++ p) one other p q (known (x ++ p) x p one h refl) (known (x ++ p) y q other k e) in
    (append_cancel_right x y p (e ∙ ap (λ t. y ++ t) (sym u.1)), u.0)
