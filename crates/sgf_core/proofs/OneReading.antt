-- Bytes that write a tree's marks write no others.
use Rattle.std.proofs.Common.{◌≡◌, ◌≢◌, ℕ, ◌+◌, false, IsTrue, List, [], ◌∷◌, ◌++◌, length, map, refl, sym, ap, ◌∙◌, subst, arith}
use Rattle.std.specs.Prelude.{◌==◌}
use Rattle.std.specs.List.{list_all}
use Rattle.std.proofs.lemmas.Bool.Decides.{nat_tests}
use Rattle.sgf_core.specs.Bytes.{is_white, is_letter, open_parenthesis, close_parenthesis, semicolon, open_bracket, close_bracket}
use Rattle.sgf_core.specs.Tree.{PropertyValue, Property}
use Rattle.sgf_core.specs.Grammar.{Part, opens, begins_node, has_value, closes, WritesParts}
use Rattle.sgf_core.specs.Inner.Pieces.{parts_of}
use Rattle.sgf_core.specs.declared.marks.Mark.{Mark}
use Rattle.sgf_core.specs.declared.marks.Mark.TheVariants as mark
use Rattle.sgf_core.specs.declared.marks.Expects.TheVariants as expects
use Rattle.sgf_core.proofs.StateLemmas.{and-left, and-right}
use Rattle.sgf_core.proofs.Stages.{Stage, wrong, finished, inside, valued_stage, follow, follow_all, follow_wrong}
use Rattle.sgf_core.proofs.Begins.{same_white}
use Rattle.sgf_core.proofs.FirstParts.{nil_not, SignFirst, sign_first, NameFirst, name_first, value_first, NoLetterFirst, same_letters, no_letter, no_value_first, same_values}

-- the bytes that a mark begins with
abbrev MarkByte : Mark → ℕ → Type 0
MarkByte mark.Begin byte = byte ≡ open_parenthesis
MarkByte mark.Node byte = byte ≡ semicolon
MarkByte (mark.Prop property) byte = IsTrue (is_letter byte)
MarkByte mark.End byte = byte ≡ close_parenthesis

record FirstByte (m : Mark) (text : List ℕ) : Type 0 where
  white : List ℕ
  byte : ℕ
  rest : List ℕ
  is : text ≡ white ++ byte ∷ rest
  all_white : IsTrue (list_all is_white white)
  plain : is_white byte ≡ false
  kind : MarkByte m byte

begin_byte : (at : ℕ) (marks : List Mark) (text : List ℕ) → WritesParts at (parts_of (mark.Begin ∷ marks)) text → FirstByte mark.Begin text
begin_byte at marks text h = let f = sign_first at opens open_parenthesis (parts_of marks) text (λ n ys k. k) h in record { white = f.white; byte = open_parenthesis; rest = f.rest; is = f.is; all_white = f.all_white; plain = refl; kind = refl }

node_byte : (at : ℕ) (marks : List Mark) (text : List ℕ) → WritesParts at (parts_of (mark.Node ∷ marks)) text → FirstByte mark.Node text
node_byte at marks text h = let f = sign_first at begins_node semicolon (parts_of marks) text (λ n ys k. k) h in record { white = f.white; byte = semicolon; rest = f.rest; is = f.is; all_white = f.all_white; plain = refl; kind = refl }

end_byte : (at : ℕ) (marks : List Mark) (text : List ℕ) → WritesParts at (parts_of (mark.End ∷ marks)) text → FirstByte mark.End text
end_byte at marks text h = let f = sign_first at closes close_parenthesis (parts_of marks) text (λ n ys k. k) h in record { white = f.white; byte = close_parenthesis; rest = f.rest; is = f.is; all_white = f.all_white; plain = refl; kind = refl }

name_byte : (at : ℕ) (property : Property) (identifier : List ℕ) (parts : List Part) (text : List ℕ) → NameFirst at identifier parts text → FirstByte (mark.Prop property) text
name_byte at property [] parts text h = absurd (h.some refl)
name_byte at property (byte ∷ identifier) parts text h =
    let l : IsTrue (is_letter byte) = and-left (is_letter byte) (list_all is_letter identifier) h.letters in
    record { white = h.white; byte = byte; rest = identifier ++ h.rest; is = h.is; all_white = h.all_white; plain = grind (arith, nat_tests); kind = l }

property_byte : (at : ℕ) (property : Property) (marks : List Mark) (text : List ℕ) → WritesParts at (parts_of (mark.Prop property ∷ marks)) text → FirstByte (mark.Prop property) text
property_byte at property marks text h = name_byte at property property.identifier (map has_value property.values ++ parts_of marks) text (name_first at property.identifier (map has_value property.values ++ parts_of marks) text h)

first_byte : (at : ℕ) (m : Mark) (marks : List Mark) (text : List ℕ) → WritesParts at (parts_of (m ∷ marks)) text → FirstByte m text
first_byte at mark.Begin marks text h = begin_byte at marks text h
first_byte at mark.Node marks text h = node_byte at marks text h
first_byte at (mark.Prop property) marks text h = property_byte at property marks text h
first_byte at mark.End marks text h = end_byte at marks text h

abbrev SameKind : Mark → Mark → Type 0
SameKind mark.Begin mark.Begin = Unit {0}
SameKind mark.Node mark.Node = Unit {0}
SameKind (mark.Prop property) (mark.Prop other) = Unit {0}
SameKind mark.End mark.End = Unit {0}
SameKind mark.Begin mark.Node = ⊥
SameKind mark.Begin (mark.Prop other) = ⊥
SameKind mark.Begin mark.End = ⊥
SameKind mark.Node mark.Begin = ⊥
SameKind mark.Node (mark.Prop other) = ⊥
SameKind mark.Node mark.End = ⊥
SameKind (mark.Prop property) mark.Begin = ⊥
SameKind (mark.Prop property) mark.Node = ⊥
SameKind (mark.Prop property) mark.End = ⊥
SameKind mark.End mark.Begin = ⊥
SameKind mark.End mark.Node = ⊥
SameKind mark.End (mark.Prop other) = ⊥

letter_not : (sign : ℕ) (a b : ℕ) → IsTrue (is_letter a) → b ≡ sign → a ≡ b → is_letter sign ≡ false → ⊥
letter_not sign a b h k e f = let g : IsTrue (is_letter sign) = subst (λ x. IsTrue (is_letter x)) (e ∙ k) h in cc

signs_apart : (x y a b : ℕ) → (x == y) ≡ false → a ≡ x → b ≡ y → a ≡ b → ⊥
signs_apart x y a b f h k e = grind (arith, nat_tests)

kinds : (m n : Mark) (a b : ℕ) → MarkByte m a → MarkByte n b → a ≡ b → SameKind m n
kinds mark.Begin mark.Begin a b h k e = tt
kinds mark.Node mark.Node a b h k e = tt
kinds (mark.Prop property) (mark.Prop other) a b h k e = tt
kinds mark.End mark.End a b h k e = tt
kinds mark.Begin mark.Node a b h k e = signs_apart open_parenthesis semicolon a b refl h k e
kinds mark.Begin (mark.Prop other) a b h k e = letter_not open_parenthesis b a k h (sym e) refl
kinds mark.Begin mark.End a b h k e = signs_apart open_parenthesis close_parenthesis a b refl h k e
kinds mark.Node mark.Begin a b h k e = signs_apart semicolon open_parenthesis a b refl h k e
kinds mark.Node (mark.Prop other) a b h k e = letter_not semicolon b a k h (sym e) refl
kinds mark.Node mark.End a b h k e = signs_apart semicolon close_parenthesis a b refl h k e
kinds (mark.Prop property) mark.Begin a b h k e = letter_not open_parenthesis a b h k e refl
kinds (mark.Prop property) mark.Node a b h k e = letter_not semicolon a b h k e refl
kinds (mark.Prop property) mark.End a b h k e = letter_not close_parenthesis a b h k e refl
kinds mark.End mark.Begin a b h k e = signs_apart close_parenthesis open_parenthesis a b refl h k e
kinds mark.End mark.Node a b h k e = signs_apart close_parenthesis semicolon a b refl h k e
kinds mark.End (mark.Prop other) a b h k e = letter_not close_parenthesis b a k h (sym e) refl

same_kind : (m n : Mark) (text : List ℕ) → FirstByte m text → FirstByte n text → SameKind m n
same_kind m n text f g = kinds m n f.byte g.byte f.kind g.kind (same_white f.white g.white f.rest g.rest f.byte g.byte f.all_white g.all_white f.plain g.plain (sym f.is ∙ g.is)).1

-- one text after two marks
record SameRest (parts more : List Part) : Type 0 where
  at : ℕ
  text : List ℕ
  writes : WritesParts at parts text
  writes_too : WritesParts at more text

same_sign : (at byte : ℕ) (parts more : List Part) (text : List ℕ) → is_white byte ≡ false → SignFirst at byte parts text → SignFirst at byte more text → SameRest parts more
same_sign at byte parts more text plain f g =
    let same = same_white f.white g.white f.rest g.rest byte byte f.all_white g.all_white plain plain (sym f.is ∙ g.is) in
    record {
      at = at + length g.white + 1;
      text = g.rest;
      writes = subst (λ ys. WritesParts (at + length g.white + 1) parts ys) same.2 (subst (λ ys. WritesParts (at + length ys + 1) parts f.rest) same.0 f.writes);
      writes_too = g.writes;
    }

-- a value's bracket is no letter
value_no_letter : (at : ℕ) (values : List PropertyValue) (parts : List Part) (text : List ℕ) → values ≢ [] → WritesParts at (map has_value values ++ parts) text → NoLetterFirst text
value_no_letter at [] parts text some h = absurd (some refl)
value_no_letter at (value ∷ values) parts text some h =
    let f = value_first at value (map has_value values ++ parts) text h in
    subst (λ ys. NoLetterFirst ys) (sym f.is) (no_letter f.white (value.bytes ++ close_bracket ∷ f.rest) open_bracket f.all_white refl)

same_names : (at : ℕ) (identifier other : List ℕ) (parts more : List Part) (text : List ℕ) (f : NameFirst at identifier parts text) (g : NameFirst at other more text) → NoLetterFirst f.rest → NoLetterFirst g.rest → (identifier ≡ other) × SameRest parts more
same_names at [] other parts more text f g p q = absurd (f.some refl)
same_names at (c ∷ identifier) [] parts more text f g p q = absurd (g.some refl)
same_names at (c ∷ identifier) (d ∷ other) parts more text f g p q =
    let l : IsTrue (is_letter c) = and-left (is_letter c) (list_all is_letter identifier) f.letters in
    let m : IsTrue (is_letter d) = and-left (is_letter d) (list_all is_letter other) g.letters in
    let plain : is_white c ≡ false = grind (arith, nat_tests) in
    let plain_too : is_white d ≡ false = grind (arith, nat_tests) in
    let same = same_white f.white g.white (identifier ++ f.rest) (other ++ g.rest) c d f.all_white g.all_white plain plain_too (sym f.is ∙ g.is) in
    let behind = same_letters identifier other f.rest g.rest (and-right (is_letter c) (list_all is_letter identifier) f.letters) (and-right (is_letter d) (list_all is_letter other) g.letters) p q same.2 in
    let name : c ∷ identifier ≡ d ∷ other = ap (λ (x : ℕ). x ∷ identifier) same.1 ∙ ap (λ (xs : List ℕ). d ∷ xs) behind.0 in (
      name,
      record {
        at = at + length g.white + length (d ∷ other);
        text = g.rest;
        writes = subst (λ ys. WritesParts (at + length g.white + length (d ∷ other)) parts ys) behind.1
            (subst (λ ys. WritesParts (at + length g.white + length ys) parts f.rest) name (subst (λ ys. WritesParts (at + length ys + length (c ∷ identifier)) parts f.rest) same.0 f.writes));
        writes_too = g.writes;
      },
    )

same_property : (at : ℕ) (property other : Property) (marks others : List Mark) (text : List ℕ) → property.values ≢ [] → other.values ≢ [] → WritesParts at (parts_of (mark.Prop property ∷ marks)) text → WritesParts at (parts_of (mark.Prop other ∷ others)) text
    → (property ≡ other) × SameRest (parts_of marks) (parts_of others)
same_property at property other marks others text some some_too h k =
    let ps : List Part = map has_value property.values ++ parts_of marks in
    let qs : List Part = map has_value other.values ++ parts_of others in
    let f = name_first at property.identifier ps text h in
    let g = name_first at other.identifier qs text k in
    let p : NoLetterFirst f.rest = value_no_letter (at + length f.white + length property.identifier) property.values (parts_of marks) f.rest some f.writes in
    let q : NoLetterFirst g.rest = value_no_letter (at + length g.white + length other.identifier) other.values (parts_of others) g.rest some_too g.writes in
    let names = same_names at property.identifier other.identifier ps qs text f g p q in
    let values = same_values names.1.at property.values other.values (parts_of marks) (parts_of others) names.1.text (no_value_first marks) (no_value_first others) names.1.writes names.1.writes_too in (
      ap (λ (xs : List ℕ). property_of xs property.values) names.0 ∙ ap (λ (vs : List PropertyValue). property_of other.identifier vs) values.same,
      record { at = values.at; text = values.text; writes = values.writes; writes_too = values.writes_too },
    )
  where
    property_of : List ℕ → List PropertyValue → Property
    property_of xs vs = record { identifier = xs; values = vs }

-- a property that goes on has a value
property_some : (stage : Stage) (property : Property) (marks : List Mark) → follow_all stage (mark.Prop property ∷ marks) ≡ finished → property.values ≢ []
property_some wrong property marks h e = let f : wrong ≡ finished = sym (follow_wrong marks) ∙ h in cc
property_some finished property marks h e = let f : wrong ≡ finished = sym (follow_wrong marks) ∙ h in cc
property_some (inside expects.Node depth) property marks h e = let f : wrong ≡ finished = sym (follow_wrong marks) ∙ h in cc
property_some (inside expects.Tree depth) property marks h e = let f : wrong ≡ finished = sym (follow_wrong marks) ∙ h in cc
property_some (inside expects.Any depth) property marks h e =
    let f : wrong ≡ finished = sym (follow_wrong marks) ∙ (sym (ap (λ (vs : List PropertyValue). follow_all (valued_stage vs depth) marks) e) ∙ h) in cc

nothing_apart : (at : ℕ) (m : Mark) (marks : List Mark) (text : List ℕ) → WritesParts at [] text → WritesParts at (parts_of (m ∷ marks)) text → ⊥
nothing_apart at m marks text h k = let f = first_byte at m marks text k in nil_not f.white f.byte f.rest (sym h ∙ f.is)

begin_rest : (at : ℕ) (marks others : List Mark) (text : List ℕ) → WritesParts at (parts_of (mark.Begin ∷ marks)) text → WritesParts at (parts_of (mark.Begin ∷ others)) text → SameRest (parts_of marks) (parts_of others)
begin_rest at marks others text h k = same_sign at open_parenthesis (parts_of marks) (parts_of others) text refl (sign_first at opens open_parenthesis (parts_of marks) text (λ n ys j. j) h) (sign_first at opens open_parenthesis (parts_of others) text (λ n ys j. j) k)

node_rest : (at : ℕ) (marks others : List Mark) (text : List ℕ) → WritesParts at (parts_of (mark.Node ∷ marks)) text → WritesParts at (parts_of (mark.Node ∷ others)) text → SameRest (parts_of marks) (parts_of others)
node_rest at marks others text h k = same_sign at semicolon (parts_of marks) (parts_of others) text refl (sign_first at begins_node semicolon (parts_of marks) text (λ n ys j. j) h) (sign_first at begins_node semicolon (parts_of others) text (λ n ys j. j) k)

end_rest : (at : ℕ) (marks others : List Mark) (text : List ℕ) → WritesParts at (parts_of (mark.End ∷ marks)) text → WritesParts at (parts_of (mark.End ∷ others)) text → SameRest (parts_of marks) (parts_of others)
end_rest at marks others text h k = same_sign at close_parenthesis (parts_of marks) (parts_of others) text refl (sign_first at closes close_parenthesis (parts_of marks) text (λ n ys j. j) h) (sign_first at closes close_parenthesis (parts_of others) text (λ n ys j. j) k)

-- the same mark, and one text after both
same_mark : (stage : Stage) (at : ℕ) (m n : Mark) (marks others : List Mark) (text : List ℕ) → follow_all stage (m ∷ marks) ≡ finished → follow_all stage (n ∷ others) ≡ finished → WritesParts at (parts_of (m ∷ marks)) text → WritesParts at (parts_of (n ∷ others)) text
    → SameKind m n → (m ≡ n) × SameRest (parts_of marks) (parts_of others)
same_mark stage at mark.Begin mark.Begin marks others text p q h k same = (refl, begin_rest at marks others text h k)
same_mark stage at mark.Node mark.Node marks others text p q h k same = (refl, node_rest at marks others text h k)
same_mark stage at mark.End mark.End marks others text p q h k same = (refl, end_rest at marks others text h k)
same_mark stage at (mark.Prop property) (mark.Prop other) marks others text p q h k same =
    let found = same_property at property other marks others text (property_some stage property marks p) (property_some stage other others q) h k in
    (ap (λ (x : Property). mark.Prop x) found.0, found.1)
same_mark stage at mark.Begin mark.Node marks others text p q h k same = absurd same
same_mark stage at mark.Begin (mark.Prop other) marks others text p q h k same = absurd same
same_mark stage at mark.Begin mark.End marks others text p q h k same = absurd same
same_mark stage at mark.Node mark.Begin marks others text p q h k same = absurd same
same_mark stage at mark.Node (mark.Prop other) marks others text p q h k same = absurd same
same_mark stage at mark.Node mark.End marks others text p q h k same = absurd same
same_mark stage at (mark.Prop property) mark.Begin marks others text p q h k same = absurd same
same_mark stage at (mark.Prop property) mark.Node marks others text p q h k same = absurd same
same_mark stage at (mark.Prop property) mark.End marks others text p q h k same = absurd same
same_mark stage at mark.End mark.Begin marks others text p q h k same = absurd same
same_mark stage at mark.End mark.Node marks others text p q h k same = absurd same
same_mark stage at mark.End (mark.Prop other) marks others text p q h k same = absurd same

pub same_marks : (marks others : List Mark) (stage : Stage) (at : ℕ) (text : List ℕ) → follow_all stage marks ≡ finished → follow_all stage others ≡ finished → WritesParts at (parts_of marks) text → WritesParts at (parts_of others) text → marks ≡ others
same_marks [] [] stage at text p q h k = refl
same_marks [] (n ∷ others) stage at text p q h k = absurd (nothing_apart at n others text h k)
same_marks (m ∷ marks) [] stage at text p q h k = absurd (nothing_apart at m marks text k h)
same_marks (m ∷ marks) (n ∷ others) stage at text p q h k =
    let same = same_mark stage at m n marks others text p q h k (same_kind m n text (first_byte at m marks text h) (first_byte at n others text k)) in
    let q' : follow_all (follow stage m) others ≡ finished = ap (λ (x : Mark). follow_all (follow stage x) others) same.0 ∙ q in
    ap (λ (x : Mark). x ∷ marks) same.0 ∙ ap (λ (ms : List Mark). n ∷ ms) (same_marks marks others (follow stage m) same.1.at same.1.text p q' same.1.writes same.1.writes_too)
