-- What has been read is a dictionary, and the bytes are a text of it.
use Rattle.std.proofs.Common.{◌≡◌, ℕ, suc, ◌+◌, ◌-◌, ◌<◌, ◌≤◌, ◌^◌, min, inl, List, [], ◌∷◌, ◌++◌, length, take, sym, refl, ap, ◌∙◌, subst, arith, All, Option, Some, None, IfSome, Bool, true, false, cond, ltb, not, is_some, unwrap_or}
use Rattle.std.specs.List.{flat_map, AllByRecursion}
use Rattle.std.proofs.lemmas.List.{take_at, length-append}
use Rattle.std.proofs.lemmas.List.Elements.{All-from_recursion, recursion_from_All}
use Rattle.std.proofs.lemmas.Bool.Decides.{nat_tests}
use Rattle.shape_core.specs.Symmetry.{least_image}
use Rattle.shape_core.specs.declared.words.Kind.TheVariants as kind
use Rattle.shape_dict.specs.declared.entries.Entry.{Entry}
use Rattle.shape_dict.specs.declared.entries.Text.{Text}
use Rattle.shape_dict.specs.declared.entries.Text.TheVariants as text
use Rattle.shape_dict.specs.declared.headers.Header.{Header}
use Rattle.shape_dict.specs.Contents.{Contents, IsDictionary, HasTotals, IsEntry, squares_of, diamonds_of}
use Rattle.shape_dict.specs.Text.{header_text, line_text, text_of, entries_of, header_of, IsWhole, IsSmallEntry, diamonds_counted}
use Rattle.shape_dict.specs.Reading.{IsFirst, AreLines, HasAllLines, IsTextOf, IsFrontFault, IsTextFault, counts_of}
use Rattle.shape_dict.specs.Inner.Reading.{IsRead}
use Rattle.shape_dict.specs.declared.faults.DictFault.{DictFault}
use Rattle.shape_dict.specs.declared.faults.DictFault.TheVariants as fault

kinds_same : (a b : Bool) → cond a kind.Square kind.Diamond ≡ cond b kind.Square kind.Diamond → a ≡ b
kinds_same true true e = refl
kinds_same true false e = cc
kinds_same false true e = cc
kinds_same false false e = refl

squares_by : (b : Bool) (squares place : ℕ) (e : Entry) (es kept : List Entry) → ltb place squares ≡ b → length kept ≡ min (length es) (squares - (place + 1)) → length (cond b (e ∷ kept) kept) ≡ min (suc (length es)) (squares - place)
squares_by true squares place e es kept is more = let low : place < squares = grind (arith, nat_tests) in omega arith
squares_by false squares place e es kept is more = let high : squares ≤ place = grind (arith, nat_tests) in omega arith

-- how many of the lines from a place on are squares, and how many diamonds
pub squares_in : (header : Header) (place : ℕ) (es : List Entry) → AreLines header place es → length (squares_of es) ≡ min (length es) (header.squares - place)
squares_in header place [] h = omega arith
squares_in header place (e ∷ es) h =
    let same = kinds_same (ltb e.shape (2 ^ 50)) (ltb place header.squares) h.0.kind in
    let more = squares_in header (place + 1) es h.1 in
    ap (λ b. length (cond b (e ∷ squares_of es) (squares_of es))) same ∙ squares_by (ltb place header.squares) header.squares place e es (squares_of es) refl more

both_by : (b : Bool) (e : Entry) (es squares diamonds : List Entry) → length squares + length diamonds ≡ length es → length (cond b (e ∷ squares) squares) + length (cond (not b) (e ∷ diamonds) diamonds) ≡ suc (length es)
both_by true e es squares diamonds h = omega arith
both_by false e es squares diamonds h = omega arith

pub both_kinds : (es : List Entry) → length (squares_of es) + length (diamonds_of es) ≡ length es
both_kinds [] = refl
both_kinds (e ∷ es) = both_by (ltb e.shape (2 ^ 50)) e es (squares_of es) (diamonds_of es) (both_kinds es)

not_nil : (e : Entry) (es : List Entry) → e ∷ es ≡ [] → ⊥
not_nil e es h = cc

all_squares_by : (b : Bool) (e : Entry) (es squares diamonds : List Entry) → (diamonds ≡ [] → squares ≡ es) → cond (not b) (e ∷ diamonds) diamonds ≡ [] → cond b (e ∷ squares) squares ≡ e ∷ es
all_squares_by true e es squares diamonds h k = ap (λ x. e ∷ x) (h k)
all_squares_by false e es squares diamonds h k = absurd (not_nil e diamonds k)

-- where none of them is a diamond, all are squares
pub all_squares : (es : List Entry) → diamonds_of es ≡ [] → squares_of es ≡ es
all_squares [] h = refl
all_squares (e ∷ es) h = all_squares_by (ltb e.shape (2 ^ 50)) e es (squares_of es) (diamonds_of es) (all_squares es) h

nil_of_length : (es : List Entry) → length es ≡ 0 → es ≡ []
nil_of_length [] h = refl
nil_of_length (e ∷ es) h = absurd (omega arith)

-- each line says an entry
first_counted : (t : Text) (games : ℕ) (first : Option ℕ) → IsFirst t games first → IfSome first (λ game. game < games)
first_counted text.One games first h = rw h tt
first_counted text.Two games first h = rw h tt
first_counted text.Three games first h = h

entries_in : (header : Header) (place : ℕ) (es : List Entry) → AreLines header place es → AllByRecursion (λ e. least_image e.shape ≡ e.shape) es → AllByRecursion (IsEntry header.games) es
entries_in header place [] h k = tt
entries_in header place (e ∷ es) h k =
    (record { word = h.0.word; canonical = k.0; there = h.0.there; played = h.0.played; first = first_counted header.text header.games e.first h.0.first }, entries_in header (place + 1) es h.1 k.1)

small_in : (header : Header) (place : ℕ) (es : List Entry) → AreLines header place es → AllByRecursion IsSmallEntry es
small_in header place [] h = tt
small_in header place (e ∷ es) h = (h.0.small, small_in header (place + 1) es h.1)

-- a text 1 or 2 says no first game
plain_in : (header : Header) (place : ℕ) (es : List Entry) → ((games : ℕ) (first : Option ℕ) → IsFirst header.text games first → first ≡ None) → AreLines header place es → AllByRecursion (λ e. e.first ≡ None) es
plain_in header place [] plain h = tt
plain_in header place (e ∷ es) plain h = (plain header.games e.first h.0.first, plain_in header (place + 1) es plain h.1)

true_not_false : true ≡ false → ⊥
true_not_false h = cc

none_after : (squares : ℕ) (diamonds : Option ℕ) → is_some diamonds ≡ false → squares + unwrap_or diamonds 0 ≡ squares
none_after squares None h = omega arith
none_after squares (Some n) h = absurd (true_not_false h)

uncounted_in : (whole left : List ℕ) (header : Header) (es : List Entry) → HasAllLines whole header es left → counts_of header ≡ false → diamonds_of es ≡ []
uncounted_in whole left header es h none =
    let squares = squares_in header 0 es h.begins.lines in
    let both = both_kinds es in
    let all = h.all in
    let only = none_after header.squares header.diamonds none in
    nil_of_length (diamonds_of es) (omega arith)

pub dictionary_read : (whole left : List ℕ) (header : Header) (es : List Entry) → HasAllLines whole header es left → HasTotals header.games header.moves es (counts_of header) → IsDictionary (record { games = header.games; moves = header.moves; entries = es; counts_diamonds = counts_of header })
dictionary_read whole left header es h totals = record {
  rises = h.begins.shapes.rises;
  each = All-from_recursion (IsEntry header.games) es (entries_in header 0 es h.begins.lines (recursion_from_All (λ e. least_image e.shape ≡ e.shape) es h.begins.shapes.canonical));
  totals = totals;
  uncounted = uncounted_in whole left header es h;
}

-- the header of what was read is the header
counted : (diamonds : Option ℕ) (es : List Entry) → length (diamonds_of es) ≡ unwrap_or diamonds 0 → diamonds_counted (is_some diamonds) es ≡ diamonds
counted None es h = refl
counted (Some n) es h = ap Some h

whole_in : (t : Text) (header : Header) (es : List Entry) (d : Contents) → header.text ≡ t → AreLines header 0 es → d.entries ≡ es → d.counts_diamonds ≡ is_some header.diamonds → (header.text ≡ text.One → header.diamonds ≡ None) → IsWhole t d
whole_in text.One header es d is h same counts first =
    (counts ∙ ap (λ (x : Option ℕ). is_some x) (first is), subst (λ (x : List Entry). All (λ e. e.first ≡ None) x) (sym same) (All-from_recursion (λ e. e.first ≡ None) es (plain_in header 0 es (λ games f k. subst (λ (x : Text). IsFirst x games f) is k) h)))
whole_in text.Two header es d is h same counts first =
    subst (λ (x : List Entry). All (λ e. e.first ≡ None) x) (sym same) (All-from_recursion (λ e. e.first ≡ None) es (plain_in header 0 es (λ games f k. subst (λ (x : Text). IsFirst x games f) is k) h))
whole_in text.Three header es d is h same counts first = tt

pub entries_are : (t : Text) (d : Contents) → IsDictionary d → IsWhole t d → entries_of t d ≡ d.entries
entries_are text.One d h whole = all_squares d.entries (h.uncounted whole.0)
entries_are text.Two d h whole = refl
entries_are text.Three d h whole = refl

squares_are : (bytes left : List ℕ) (header : Header) (es : List Entry) → HasAllLines bytes header es left → length (squares_of es) ≡ header.squares
squares_are bytes left header es h =
    let squares = squares_in header 0 es h.begins.lines in let all = h.all in omega arith

diamonds_are : (bytes left : List ℕ) (header : Header) (es : List Entry) → HasAllLines bytes header es left → length (diamonds_of es) ≡ unwrap_or header.diamonds 0
diamonds_are bytes left header es h =
    let squares = squares_are bytes left header es h in let both = both_kinds es in let all = h.all in omega arith

is_dictionary : (bytes left : List ℕ) (d : Contents) → IsRead bytes d left → IsDictionary d
is_dictionary bytes left d r =
    let es = d.entries in
    let first = dictionary_read bytes left r.header es r.lines r.totals in
    let second = subst (λ (g : ℕ). IsDictionary (record { games = g; moves = r.header.moves; entries = es; counts_diamonds = counts_of r.header })) (sym r.games) first in
    let third = subst (λ (m : ℕ). IsDictionary (record { games = d.games; moves = m; entries = es; counts_diamonds = counts_of r.header })) (sym r.moves) second in
    subst (λ (b : Bool). IsDictionary (record { games = d.games; moves = d.moves; entries = es; counts_diamonds = b })) (sym r.kinds) third

header_is : (bytes left : List ℕ) (d : Contents) (r : IsRead bytes d left) → header_of r.header.text d ≡ r.header
header_is bytes left d r =
    let squares = squares_are bytes left r.header d.entries r.lines in
    let diamonds : diamonds_counted d.counts_diamonds d.entries ≡ r.header.diamonds = ap (λ (b : Bool). diamonds_counted b d.entries) r.kinds ∙ counted r.header.diamonds d.entries (diamonds_are bytes left r.header d.entries r.lines) in
    let games = r.games in
    let moves = r.moves in
    rw (games, moves, squares, diamonds) refl

small_diamonds : (diamonds : Option ℕ) (n : ℕ) → IfSome diamonds (λ n. n < 2 ^ 64) → n ≡ unwrap_or diamonds 0 → n < 2 ^ 64
small_diamonds None n h e = omega arith
small_diamonds (Some m) n h e = omega arith

pub text_read : (bytes left : List ℕ) (d : Contents) (r : IsRead bytes d left) → IsTextOf d (text_of r.header.text d)
text_read bytes left d r =
    let header = r.lines.begins.is_header in
    let squares = squares_are bytes left r.header d.entries r.lines in
    record {
      text = r.header.text;
      dictionary = is_dictionary bytes left d r;
      small = record {
        games = (let e = r.games in let s = header.games in omega arith);
        moves = (let e = r.moves in let s = header.moves in omega arith);
        squares = (let s = header.squares in omega arith);
        diamonds = small_diamonds r.header.diamonds (length (diamonds_of d.entries)) header.diamonds (diamonds_are bytes left r.header d.entries r.lines);
        each = All-from_recursion IsSmallEntry d.entries (small_in r.header 0 d.entries r.lines.begins.lines);
      };
      whole = whole_in r.header.text r.header d.entries d refl r.lines.begins.lines refl r.kinds header.first_text;
      same = refl;
    }

pub read_same : (bytes left : List ℕ) (d : Contents) (r : IsRead bytes d left) → bytes ≡ text_of r.header.text d ++ left
unfolding text_read
read_same bytes left d r =
    let t = text_read bytes left d r in
    let entries = entries_are r.header.text d t.dictionary t.whole in
    r.lines.begins.same ∙ (ap (λ (h : Header). header_text h ++ flat_map (line_text r.header.text) d.entries ++ left) (sym (header_is bytes left d r))
    ∙ ap (λ (es : List Entry). header_text (header_of r.header.text d) ++ flat_map (line_text r.header.text) es ++ left) (sym entries))

pub front_read : (bytes left : List ℕ) (d : Contents) → IsRead bytes d left → IsTextOf d (take (length bytes - length left) bytes)
front_read bytes left d r =
    let same = read_same bytes left d r in
    let text = text_of r.header.text d in
    let count = ap length same ∙ length-append text left in
    let front : take (length bytes - length left) bytes ≡ text = ap (take (length bytes - length left)) same ∙ take_at text left (length bytes - length left) (omega arith) in
    subst (λ (x : List ℕ). IsTextOf d x) (sym front) (text_read bytes left d r)

-- a fault of a front is one of the whole
pub fault_of_whole : (bytes : List ℕ) (found : DictFault) → IsFrontFault bytes found → IsTextFault bytes found
fault_of_whole bytes fault.BadHeader h = h
fault_of_whole bytes (fault.BadLine line) h = (h.0, inl h.1)
fault_of_whole bytes (fault.NotRising line) h = h
fault_of_whole bytes (fault.NotCanonical line) h = h
fault_of_whole bytes fault.WrongTotals h = h
fault_of_whole bytes fault.Memory h = h
fault_of_whole bytes fault.Overflow h = h
fault_of_whole bytes fault.TooLarge h = h
fault_of_whole bytes fault.MixedKinds h = h
