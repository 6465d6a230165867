-- What a text of parts begins with, and values that two readings of one text share.
use Rattle.std.proofs.Common.{◌≡◌, ◌≢◌, ℕ, ◌+◌, Bool, true, false, IsTrue, List, [], ◌∷◌, ◌++◌, length, map, refl, sym, ap, ◌∙◌, subst, append_assoc, arith, length-append}
use Rattle.std.specs.Prelude.{◌==◌, if◌then◌else◌}
use Rattle.std.specs.List.{list_all}
use Rattle.std.proofs.lemmas.Bool.Decides.{nat_tests}
use Rattle.sgf_core.specs.Bytes.{is_white, is_letter, open_parenthesis, close_parenthesis, semicolon, open_bracket, close_bracket, backslash}
use Rattle.sgf_core.specs.Tree.{PropertyValue}
use Rattle.sgf_core.specs.Grammar.{Part, opens, begins_node, names, has_value, closes, IsPartText, WritesParts, is_text_after, is_value_text}
use Rattle.sgf_core.specs.Inner.Pieces.{parts_of}
use Rattle.sgf_core.specs.declared.marks.Mark.{Mark}
use Rattle.sgf_core.specs.declared.marks.Mark.TheVariants as mark
use Rattle.sgf_core.proofs.StateLemmas.{and-left, and-right}
use Rattle.sgf_core.proofs.Begins.{same_white}

-- ---- what a text of parts begins with

pub nil_not : (a : List ℕ) (b : ℕ) (c : List ℕ) → [] ≡ a ++ b ∷ c → ⊥
nil_not [] b c e = cc
nil_not (x ∷ a) b c e = cc

-- a sign after white bytes, and the rest
pub record SignFirst (at : ℕ) (byte : ℕ) (parts : List Part) (text : List ℕ) : Type 0 where
  pub white : List ℕ
  pub rest : List ℕ
  pub is : text ≡ white ++ byte ∷ rest
  pub all_white : IsTrue (list_all is_white white)
  pub writes : WritesParts (at + length white + 1) parts rest

pub sign_first : (at : ℕ) (part : Part) (byte : ℕ) (parts : List Part) (text : List ℕ) → ((n : ℕ) (ys : List ℕ) → IsPartText n part ys → ys ≡ byte ∷ []) → WritesParts at (part ∷ parts) text → SignFirst at byte parts text
sign_first at part byte parts text one (w, written, rest, is, hw, hp, hr) =
    let e : written ≡ byte ∷ [] = one (at + length w) written hp in
    record {
      white = w;
      rest = rest;
      is = is ∙ (ap (λ (ys : List ℕ). w ++ ys ++ rest) e ∙ append_assoc w (byte ∷ []) rest);
      all_white = hw;
      writes = subst (λ n. WritesParts (at + length w + n) parts rest) (ap (λ (ys : List ℕ). length ys) e) hr;
    }

-- a name after white bytes, and the rest
pub record NameFirst (at : ℕ) (identifier : List ℕ) (parts : List Part) (text : List ℕ) : Type 0 where
  pub white : List ℕ
  pub rest : List ℕ
  pub is : text ≡ white ++ (identifier ++ rest)
  pub all_white : IsTrue (list_all is_white white)
  pub some : identifier ≢ []
  pub letters : IsTrue (list_all is_letter identifier)
  pub writes : WritesParts (at + length white + length identifier) parts rest

pub name_first : (at : ℕ) (identifier : List ℕ) (parts : List Part) (text : List ℕ) → WritesParts at (names identifier ∷ parts) text → NameFirst at identifier parts text
name_first at identifier parts text (w, written, rest, is, hw, hp, hr) =
    record {
      white = w;
      rest = rest;
      is = is ∙ (ap (λ (ys : List ℕ). w ++ ys ++ rest) hp.0 ∙ append_assoc w identifier rest);
      all_white = hw;
      some = hp.1;
      letters = hp.2;
      writes = subst (λ ys. WritesParts (at + length w + length ys) parts rest) hp.0 hr;
    }

-- a value after white bytes, and the rest
pub record ValueFirst (at : ℕ) (value : PropertyValue) (parts : List Part) (text : List ℕ) : Type 0 where
  pub white : List ℕ
  pub rest : List ℕ
  pub is : text ≡ white ++ open_bracket ∷ (value.bytes ++ close_bracket ∷ rest)
  pub all_white : IsTrue (list_all is_white white)
  pub whole : IsTrue (is_value_text value.bytes)
  pub place : value.at ≡ at + length white + 1
  pub writes : WritesParts (at + length white + (length value.bytes + 2)) parts rest

pub value_first : (at : ℕ) (value : PropertyValue) (parts : List Part) (text : List ℕ) → WritesParts at (has_value value ∷ parts) text → ValueFirst at value parts text
value_first at value parts text (w, written, rest, is, hw, hp, hr) =
    let l : length written ≡ length value.bytes + 2 = ap (λ (ys : List ℕ). length ys) hp.0 ∙ omega (arith, length-append value.bytes (close_bracket ∷ [])) in
    record {
      white = w;
      rest = rest;
      is = is ∙ (ap (λ (ys : List ℕ). w ++ ys ++ rest) hp.0 ∙ (append_assoc w (open_bracket ∷ value.bytes ++ close_bracket ∷ []) rest ∙ ap (λ (ys : List ℕ). w ++ open_bracket ∷ ys) (append_assoc value.bytes (close_bracket ∷ []) rest)));
      all_white = hw;
      whole = hp.1;
      place = hp.2;
      writes = subst (λ n. WritesParts (at + length w + n) parts rest) l hr;
    }

-- ---- two readings of one text

-- letters end once
abbrev pub NoLetterFirst : List ℕ → Type 0
NoLetterFirst [] = Unit {0}
NoLetterFirst (byte ∷ text) = is_letter byte ≡ false

pub same_letters : (a b x y : List ℕ) → IsTrue (list_all is_letter a) → IsTrue (list_all is_letter b) → NoLetterFirst x → NoLetterFirst y → a ++ x ≡ b ++ y → (a ≡ b) × (x ≡ y)
same_letters [] [] x y h k p q e = (refl, e)
same_letters [] (b ∷ bs) x y h k p q e =
    let f : is_letter b ≡ false = subst (λ ys. NoLetterFirst ys) e p in
    let g : is_letter b ≡ true = and-left (is_letter b) (list_all is_letter bs) k in
    absurd cc
same_letters (a ∷ as') [] x y h k p q e =
    let f : is_letter a ≡ false = subst (λ ys. NoLetterFirst ys) (sym e) q in
    let g : is_letter a ≡ true = and-left (is_letter a) (list_all is_letter as') h in
    absurd cc
same_letters (a ∷ as') (b ∷ bs) x y h k p q e =
    let first : a ≡ b = cc in
    let rest : as' ++ x ≡ bs ++ y = cc in
    let later = same_letters as' bs x y (and-right (is_letter a) (list_all is_letter as') h) (and-right (is_letter b) (list_all is_letter bs) k) p q rest in
    (ap (λ (z : ℕ). z ∷ as') first ∙ ap (λ (zs : List ℕ). b ∷ zs) later.0, later.1)

pub no_letter : (white text : List ℕ) (byte : ℕ) → IsTrue (list_all is_white white) → is_letter byte ≡ false → NoLetterFirst (white ++ byte ∷ text)
no_letter [] text byte h k = k
no_letter (w ∷ white) text byte h k = let f : IsTrue (is_white w) = and-left (is_white w) (list_all is_white white) h in grind (arith, nat_tests)

-- a value ends once
pub open_text : (closes rest : Bool) → IsTrue (if closes then false else rest) → IsTrue rest
open_text true rest h = absurd cc
open_text false rest h = h

pub same_text : (escaped : Bool) (a b x y : List ℕ) → IsTrue (is_text_after escaped a) → IsTrue (is_text_after escaped b) → a ++ close_bracket ∷ x ≡ b ++ close_bracket ∷ y → (a ≡ b) × (x ≡ y)
same_text escaped [] [] x y h k e = (refl, cc)
same_text true [] (b ∷ bs) x y h k e = absurd cc
same_text true (a ∷ as') [] x y h k e = absurd cc
same_text false [] (b ∷ bs) x y h k e =
    let first : close_bracket ≡ b = cc in
    let f : IsTrue (is_text_after false (close_bracket ∷ bs)) = subst (λ z. IsTrue (is_text_after false (z ∷ bs))) (sym first) k in
    absurd cc
same_text false (a ∷ as') [] x y h k e =
    let first : a ≡ close_bracket = cc in
    let f : IsTrue (is_text_after false (close_bracket ∷ as')) = subst (λ z. IsTrue (is_text_after false (z ∷ as'))) first h in
    absurd cc
same_text true (a ∷ as') (b ∷ bs) x y h k e =
    let first : a ≡ b = cc in
    let rest : as' ++ close_bracket ∷ x ≡ bs ++ close_bracket ∷ y = cc in
    let later = same_text false as' bs x y h k rest in
    (ap (λ (z : ℕ). z ∷ as') first ∙ ap (λ (zs : List ℕ). b ∷ zs) later.0, later.1)
same_text false (a ∷ as') (b ∷ bs) x y h k e =
    let first : a ≡ b = cc in
    let rest : as' ++ close_bracket ∷ x ≡ bs ++ close_bracket ∷ y = cc in
    let l : IsTrue (is_text_after (b == backslash) bs) = open_text (b == close_bracket) (is_text_after (b == backslash) bs) k in
    let m : IsTrue (is_text_after (a == backslash) bs) = subst (λ z. IsTrue (is_text_after (z == backslash) bs)) (sym first) l in
    let later = same_text (a == backslash) as' bs x y (open_text (a == close_bracket) (is_text_after (a == backslash) as') h) m rest in
    (ap (λ (z : ℕ). z ∷ as') first ∙ ap (λ (zs : List ℕ). b ∷ zs) later.0, later.1)

-- ---- values

-- no value comes first
abbrev pub NoValueFirst : List Part → Type 0
NoValueFirst [] = Unit {0}
NoValueFirst (opens ∷ parts) = Unit {0}
NoValueFirst (begins_node ∷ parts) = Unit {0}
NoValueFirst (names identifier ∷ parts) = Unit {0}
NoValueFirst (has_value value ∷ parts) = ⊥
NoValueFirst (closes ∷ parts) = Unit {0}

pub no_value_first : (marks : List Mark) → NoValueFirst (parts_of marks)
no_value_first [] = tt
no_value_first (mark.Begin ∷ marks) = tt
no_value_first (mark.Node ∷ marks) = tt
no_value_first (mark.Prop property ∷ marks) = tt
no_value_first (mark.End ∷ marks) = tt

-- where no value comes first, no bracket does
pub sign_no_bracket : (at byte : ℕ) (parts : List Part) (text white rest : List ℕ) → SignFirst at byte parts text → is_white byte ≡ false → byte ≢ open_bracket → IsTrue (list_all is_white white) → text ≡ white ++ open_bracket ∷ rest → ⊥
sign_no_bracket at byte parts text white rest h plain other all is =
    other (same_white h.white white h.rest rest byte open_bracket h.all_white all plain refl (sym h.is ∙ is)).1

pub name_no_bracket : (at : ℕ) (identifier : List ℕ) (parts : List Part) (text white rest : List ℕ) → NameFirst at identifier parts text → IsTrue (list_all is_white white) → text ≡ white ++ open_bracket ∷ rest → ⊥
name_no_bracket at [] parts text white rest h all is = h.some refl
name_no_bracket at (c ∷ identifier) parts text white rest h all is =
    let l : IsTrue (is_letter c) = and-left (is_letter c) (list_all is_letter identifier) h.letters in
    let plain : is_white c ≡ false = grind (arith, nat_tests) in
    let same : c ≡ open_bracket = (same_white h.white white (identifier ++ h.rest) rest c open_bracket h.all_white all plain refl (sym h.is ∙ is)).1 in
    let f : IsTrue (is_letter open_bracket) = subst (λ b. IsTrue (is_letter b)) same l in
    cc

pub nothing_no_bracket : (at : ℕ) (text white rest : List ℕ) → WritesParts at [] text → text ≡ white ++ open_bracket ∷ rest → ⊥
nothing_no_bracket at text white rest h is = nil_not white open_bracket rest (sym h ∙ is)

pub opens_no_bracket : (at : ℕ) (parts : List Part) (text white rest : List ℕ) → WritesParts at (opens ∷ parts) text → IsTrue (list_all is_white white) → text ≡ white ++ open_bracket ∷ rest → ⊥
opens_no_bracket at parts text white rest h all is = sign_no_bracket at open_parenthesis parts text white rest (sign_first at opens open_parenthesis parts text (λ n ys k. k) h) refl (λ e. cc) all is

pub node_no_bracket : (at : ℕ) (parts : List Part) (text white rest : List ℕ) → WritesParts at (begins_node ∷ parts) text → IsTrue (list_all is_white white) → text ≡ white ++ open_bracket ∷ rest → ⊥
node_no_bracket at parts text white rest h all is = sign_no_bracket at semicolon parts text white rest (sign_first at begins_node semicolon parts text (λ n ys k. k) h) refl (λ e. cc) all is

pub closes_no_bracket : (at : ℕ) (parts : List Part) (text white rest : List ℕ) → WritesParts at (closes ∷ parts) text → IsTrue (list_all is_white white) → text ≡ white ++ open_bracket ∷ rest → ⊥
closes_no_bracket at parts text white rest h all is = sign_no_bracket at close_parenthesis parts text white rest (sign_first at closes close_parenthesis parts text (λ n ys k. k) h) refl (λ e. cc) all is

pub names_no_bracket : (at : ℕ) (identifier : List ℕ) (parts : List Part) (text white rest : List ℕ) → WritesParts at (names identifier ∷ parts) text → IsTrue (list_all is_white white) → text ≡ white ++ open_bracket ∷ rest → ⊥
names_no_bracket at identifier parts text white rest h all is = name_no_bracket at identifier parts text white rest (name_first at identifier parts text h) all is

pub no_bracket : (at : ℕ) (parts : List Part) (text white rest : List ℕ) → NoValueFirst parts → WritesParts at parts text → IsTrue (list_all is_white white) → text ≡ white ++ open_bracket ∷ rest → ⊥
no_bracket at [] text white rest first h all is = nothing_no_bracket at text white rest h is
no_bracket at (opens ∷ parts) text white rest first h all is = opens_no_bracket at parts text white rest h all is
no_bracket at (begins_node ∷ parts) text white rest first h all is = node_no_bracket at parts text white rest h all is
no_bracket at (names identifier ∷ parts) text white rest first h all is = names_no_bracket at identifier parts text white rest h all is
no_bracket at (has_value value ∷ parts) text white rest first h all is = first
no_bracket at (closes ∷ parts) text white rest first h all is = closes_no_bracket at parts text white rest h all is

-- the same values, and one text for what comes after them
pub record SameValues (values others : List PropertyValue) (parts more : List Part) : Type 0 where
  pub same : values ≡ others
  pub at : ℕ
  pub text : List ℕ
  pub writes : WritesParts at parts text
  pub writes_too : WritesParts at more text

pub same_values : (at : ℕ) (values others : List PropertyValue) (parts more : List Part) (text : List ℕ) → NoValueFirst parts → NoValueFirst more → WritesParts at (map has_value values ++ parts) text → WritesParts at (map has_value others ++ more) text → SameValues values others parts more
same_values at [] [] parts more text p q h k = record { same = refl; at = at; text = text; writes = h; writes_too = k }
same_values at [] (other ∷ others) parts more text p q h k =
    let f = value_first at other (map has_value others ++ more) text k in
    absurd (no_bracket at parts text f.white (other.bytes ++ close_bracket ∷ f.rest) p h f.all_white f.is)
same_values at (value ∷ values) [] parts more text p q h k =
    let f = value_first at value (map has_value values ++ parts) text h in
    absurd (no_bracket at more text f.white (value.bytes ++ close_bracket ∷ f.rest) q k f.all_white f.is)
same_values at (value ∷ values) (other ∷ others) parts more text p q h k =
    let f = value_first at value (map has_value values ++ parts) text h in
    let g = value_first at other (map has_value others ++ more) text k in
    let behind = same_white f.white g.white (value.bytes ++ close_bracket ∷ f.rest) (other.bytes ++ close_bracket ∷ g.rest) open_bracket open_bracket f.all_white g.all_white refl refl (sym f.is ∙ g.is) in
    let inner = same_text false value.bytes other.bytes f.rest g.rest f.whole g.whole behind.2 in
    let place : value.at ≡ other.at = f.place ∙ (ap (λ (ys : List ℕ). at + length ys + 1) behind.0 ∙ sym g.place) in
    let here : at + length f.white + (length value.bytes + 2) ≡ at + length g.white + (length other.bytes + 2) = ap (λ (ys : List ℕ). at + length ys + (length value.bytes + 2)) behind.0 ∙ ap (λ (ys : List ℕ). at + length g.white + (length ys + 2)) inner.0 in
    let moved : WritesParts (at + length g.white + (length other.bytes + 2)) (map has_value values ++ parts) g.rest = subst (λ n. WritesParts n (map has_value values ++ parts) g.rest) here (subst (λ ys. WritesParts (at + length f.white + (length value.bytes + 2)) (map has_value values ++ parts) ys) inner.1 f.writes) in
    let later = same_values (at + length g.white + (length other.bytes + 2)) values others parts more g.rest p q moved g.writes in
    let first : value ≡ other = ap (λ (n : ℕ). value_at n value.bytes) place ∙ ap (λ (ys : List ℕ). value_at other.at ys) inner.0 in
    record {
      same = ap (λ (v : PropertyValue). v ∷ values) first ∙ ap (λ (vs : List PropertyValue). other ∷ vs) later.same;
      at = later.at;
      text = later.text;
      writes = later.writes;
      writes_too = later.writes_too;
    }
  where
    value_at : ℕ → List ℕ → PropertyValue
    value_at n ys = record { at = n; bytes = ys }
