-- An identifier, its values so far, and what comes of them.
use Rattle.std.proofs.Common.{◌≡◌, ◌≢◌, ℕ, ◌+◌, ◌<◌, ◌≤◌, Bool, true, false, IsTrue, List, [], ◌∷◌, ◌++◌, length, drop, map, refl, sym, ap, ◌∙◌, subst, arith, append_assoc}
use Rattle.std.specs.Prelude.{slice_range, slice_index}
use Rattle.std.specs.List.{list_all}
use Rattle.std.proofs.lemmas.List.{append-nil, map_push, drop_more, drop_all}
use Rattle.std.proofs.lemmas.List.Edits.{between_more}
use Rattle.sgf_core.specs.Bytes.{is_white, is_letter, open_bracket, close_bracket}
use Rattle.sgf_core.specs.Tree.{PropertyValue}
use Rattle.sgf_core.specs.Grammar.{Part, names, has_value, is_value_text, WritesParts}
use Rattle.sgf_core.specs.Inner.Pieces.{Wrote, ReadsMark, EndsInMark, IsNameAlone}
use Rattle.sgf_core.specs.Values.{value_of}
use Rattle.sgf_core.specs.declared.marks.Value.{Value}
use Rattle.sgf_core.specs.declared.marks.Mark.TheVariants as mark
use Rattle.sgf_core.specs.declared.marks.Expects.TheVariants as expects
use Rattle.sgf_core.proofs.Slices.{slice-drop, slice-join, slice-first, length-slice}
use Rattle.sgf_core.proofs.Writing.{wrote-plain, wrote-white, wrote-then}

-- where no value was read, all bytes are white
pub all_white : (at : ℕ) (text : List ℕ) → Wrote at [] text → IsTrue (list_all is_white text)
all_white at text h = subst (λ ys. IsTrue (list_all is_white ys)) (sym (h.is ∙ ap (λ (ys : List ℕ). ys ++ h.white) h.writes)) h.ends_white

-- a value alone
pub value_parts : (at : ℕ) (bytes : List ℕ) → IsTrue (is_value_text bytes) → WritesParts at (has_value (record { at = at + 1; bytes = bytes }) ∷ []) (open_bracket ∷ bytes ++ close_bracket ∷ [])
value_parts at bytes h =
    let e : at + 1 ≡ at + length {A = ℕ} [] + 1 = omega arith in (
      [],
      open_bracket ∷ bytes ++ close_bracket ∷ [],
      [],
      ap (λ (ys : List ℕ). open_bracket ∷ ys) (sym (append-nil (bytes ++ close_bracket ∷ []))),
      refl,
      (refl, h, e),
      refl,
    )

-- one more value after those so far
pub value_more : (values : List PropertyValue) (value : PropertyValue) (at : ℕ) (a b : List ℕ) → Wrote at (map has_value values) a → WritesParts (at + length a) (has_value value ∷ []) b
    → WritesParts at (map has_value (values ++ value ∷ [])) (a ++ b)
value_more values value at a b h k =
    subst (λ ps. WritesParts at ps (a ++ b)) (sym (map_push has_value values value)) (wrote-then at (map has_value values) (has_value value) [] a b h k)

-- an identifier in front of its values
pub name_first : (at : ℕ) (identifier : List ℕ) (values : List PropertyValue) (a : List ℕ) → identifier ≢ [] → IsTrue (list_all is_letter identifier) → WritesParts (at + length identifier) (map has_value values) a
    → WritesParts at (names identifier ∷ map has_value values) (identifier ++ a)
name_first at identifier values a some letters h =
    let e : at + length identifier ≡ at + length {A = ℕ} [] + length identifier = omega arith in
    ([], identifier, a, refl, refl, (refl, some, letters), subst (λ n. WritesParts n (map has_value values) a) e h)

pub name_wrote : (at : ℕ) (identifier : List ℕ) (values : List PropertyValue) (a : List ℕ) → identifier ≢ [] → IsTrue (list_all is_letter identifier) → Wrote (at + length identifier) (map has_value values) a
    → Wrote at (names identifier ∷ map has_value values) (identifier ++ a)
name_wrote at identifier values a some letters h = record {
  body = identifier ++ h.body;
  white = h.white;
  is = ap (λ (ys : List ℕ). identifier ++ ys) h.is ∙ sym (append_assoc identifier h.body h.white);
  ends_white = h.ends_white;
  writes = name_first at identifier values h.body some letters h.writes;
}

-- an identifier that begins at `from` and ends at `end`
pub record IsIdentifier (bytes : List ℕ) (from end : ℕ) : Type 0 where
  pub forward : from < end
  pub in_input : end ≤ length bytes
  pub letters : IsTrue (list_all is_letter (slice_range bytes from end))

pub some_identifier : (bytes : List ℕ) (from end : ℕ) → IsIdentifier bytes from end → slice_range bytes from end ≢ []
some_identifier bytes from end h none =
    let l : from + length (slice_range bytes from end) ≡ end = length-slice bytes from end (omega arith) h.in_input in
    let e : length (slice_range bytes from end) ≡ 0 = ap (λ (ys : List ℕ). length ys) none in
    omega arith

-- the values so far, up to a place
pub record HasRead (bytes : List ℕ) (end place : ℕ) (values : List PropertyValue) : Type 0 where
  pub after : end ≤ place
  pub within : place ≤ length bytes
  pub wrote : Wrote end (map has_value values) (slice_range bytes end place)

-- a whole property
pub is_property : (bytes : List ℕ) (from end place : ℕ) (values : List PropertyValue) → IsIdentifier bytes from end → HasRead bytes end place values → values ≢ [] → (place < length bytes → (slice_index bytes place ≢ open_bracket) × (is_white (slice_index bytes place) ≡ false))
    → ReadsMark bytes expects.Any from place (mark.Prop (record { identifier = slice_range bytes from end; values = values }))
is_property bytes from end place values name h some whole =
    let identifier = slice_range bytes from end in
    let l : from + length identifier ≡ end = length-slice bytes from end (omega arith) name.in_input in
    record {
      forward = omega arith;
      in_input = h.within;
      allowed = some;
      wrote = subst (λ ys. Wrote from (names identifier ∷ map has_value values) ys) (sym (slice-join bytes from end place (omega arith) h.after))
          (name_wrote from identifier values (slice_range bytes end place) (some_identifier bytes from end name) name.letters (subst (λ n. Wrote n (map has_value values) (slice_range bytes end place)) (sym l) h.wrote));
      whole = whole;
    }

-- the input ends in a value
pub is_unfinished : (bytes : List ℕ) (from end place : ℕ) (values : List PropertyValue) (value : PropertyValue) (more : List ℕ) → IsIdentifier bytes from end → HasRead bytes end place values → more ≢ []
    → WritesParts place (has_value value ∷ []) (drop place bytes ++ more) → EndsInMark bytes expects.Any from
is_unfinished bytes from end place values value more name h some k =
    let identifier = slice_range bytes from end in
    let text = slice_range bytes end place in
    let l : from + length identifier ≡ end = length-slice bytes from end (omega arith) name.in_input in
    let m : end + length text ≡ place = length-slice bytes end place h.after h.within in
    let all = value_more values value end text (drop place bytes ++ more) h.wrote (subst (λ n. WritesParts n (has_value value ∷ []) (drop place bytes ++ more)) (sym m) k) in
    let is : identifier ++ (text ++ (drop place bytes ++ more)) ≡ drop from bytes ++ more =
    sym (
    ap (λ (ys : List ℕ). ys ++ more) (slice-drop bytes from end (omega arith) ∙ ap (λ (ys : List ℕ). identifier ++ ys) (slice-drop bytes end place h.after))
    ∙ (append_assoc identifier (text ++ drop place bytes) more ∙ ap (λ (ys : List ℕ). identifier ++ ys) (append_assoc text (drop place bytes) more))
    ) in
    record {
      more = more;
      begun = mark.Prop (record { identifier = identifier; values = values ++ value ∷ [] });
      allowed = λ none. some_last values value none;
      some_more = some;
      writes = subst (λ ys. WritesParts from (names identifier ∷ map has_value (values ++ value ∷ [])) ys) is
          (name_first from identifier (values ++ value ∷ []) (text ++ (drop place bytes ++ more)) (some_identifier bytes from end name) name.letters (subst (λ n. WritesParts n (map has_value (values ++ value ∷ [])) (text ++ (drop place bytes ++ more))) (sym l) all));
    }
  where
    some_last : (xs : List PropertyValue) (x : PropertyValue) → xs ++ x ∷ [] ≢ []
    some_last [] x e = cc
    some_last (y ∷ xs) x e = cc

-- a value after the others, and the white bytes after it
pub reads_more : (bytes : List ℕ) (end place close next : ℕ) (values : List PropertyValue) → HasRead bytes end place values → place < length bytes → slice_index bytes place ≡ open_bracket
    → (place + 1 ≤ close) × (close < length bytes) × (slice_index bytes close ≡ close_bracket) × IsTrue (is_value_text (slice_range bytes (place + 1) close))
    → (close + 1 ≤ next) × (next ≤ length bytes) → IsTrue (list_all is_white (slice_range bytes (close + 1) next))
    → HasRead bytes end next (values ++ record { at = place + 1; bytes = slice_range bytes (place + 1) close } ∷ [])
reads_more bytes end place close next values h within open_is value behind white =
    let value_bytes = slice_range bytes (place + 1) close in
    let text = slice_range bytes end place in
    let m : end + length text ≡ place = length-slice bytes end place h.after h.within in
    let e : slice_range bytes place (close + 1) ≡ open_bracket ∷ value_bytes ++ close_bracket ∷ [] =
    slice-first bytes place (close + 1) (omega arith) within
    ∙ (ap (λ (b : ℕ). b ∷ slice_range bytes (place + 1) (close + 1)) open_is
    ∙ ap (λ (ys : List ℕ). open_bracket ∷ ys) (between_more bytes (place + 1) close 0 value.0 value.1 ∙ ap (λ (b : ℕ). value_bytes ++ b ∷ []) value.2)) in
    let one = subst (λ ys. WritesParts place (has_value (record { at = place + 1; bytes = value_bytes }) ∷ []) ys) (sym e) (value_parts place value_bytes value.3) in
    let all = value_more values (record { at = place + 1; bytes = value_bytes }) end text (slice_range bytes place (close + 1)) h.wrote
    (subst (λ n. WritesParts n (has_value (record { at = place + 1; bytes = value_bytes }) ∷ []) (slice_range bytes place (close + 1))) (sym m) one) in
    let ps : List Part = map has_value (values ++ record { at = place + 1; bytes = value_bytes } ∷ []) in
    let is : (text ++ slice_range bytes place (close + 1)) ++ slice_range bytes (close + 1) next ≡ slice_range bytes end next =
    ap (λ (ys : List ℕ). ys ++ slice_range bytes (close + 1) next) (sym (slice-join bytes end place (close + 1) h.after (omega arith)))
    ∙ sym (slice-join bytes end (close + 1) next (omega arith) behind.0) in
    record {
      after = omega arith;
      within = behind.1;
      wrote = subst (λ ys. Wrote end ps ys) is (wrote-white end ps (text ++ slice_range bytes place (close + 1)) (slice_range bytes (close + 1) next) (wrote-plain end ps (text ++ slice_range bytes place (close + 1)) all) white);
    }

-- a value that nothing closes
pub is_unclosed : (bytes : List ℕ) (from end place : ℕ) (values : List PropertyValue) (more : List ℕ) → IsIdentifier bytes from end → HasRead bytes end place values → place < length bytes → slice_index bytes place ≡ open_bracket
    → IsTrue (is_value_text (drop (place + 1) bytes ++ more)) → EndsInMark bytes expects.Any from
is_unclosed bytes from end place values more name h within open_is text =
    let e : open_bracket ∷ (drop (place + 1) bytes ++ more) ++ close_bracket ∷ [] ≡ drop place bytes ++ (more ++ close_bracket ∷ []) =
    ap (λ (ys : List ℕ). open_bracket ∷ ys) (append_assoc (drop (place + 1) bytes) more (close_bracket ∷ []))
    ∙ (ap (λ (b : ℕ). b ∷ (drop (place + 1) bytes ++ (more ++ close_bracket ∷ []))) (sym open_is)
    ∙ ap (λ (ys : List ℕ). ys ++ (more ++ close_bracket ∷ [])) (sym (drop_more bytes place 0 within))) in
    let value : PropertyValue = record { at = place + 1; bytes = drop (place + 1) bytes ++ more } in
    is_unfinished bytes from end place values value (more ++ close_bracket ∷ []) name h (some_end more)
    (subst (λ ys. WritesParts place (has_value value ∷ []) ys) e (value_parts place (drop (place + 1) bytes ++ more) text))
  where
    some_end : (xs : List ℕ) → xs ++ close_bracket ∷ [] ≢ []
    some_end [] x = cc
    some_end (y ∷ xs) x = cc

-- nothing but white bytes after the identifier
pub ends_behind_name : (bytes : List ℕ) (from end place : ℕ) (values : List PropertyValue) → IsIdentifier bytes from end → HasRead bytes end place values → length bytes ≤ place → EndsInMark bytes expects.Any from
ends_behind_name bytes from end place values name h over =
    let e : open_bracket ∷ close_bracket ∷ [] ≡ drop place bytes ++ open_bracket ∷ close_bracket ∷ [] = ap (λ (ys : List ℕ). ys ++ open_bracket ∷ close_bracket ∷ []) (sym (drop_all place bytes over)) in
    let value : PropertyValue = record { at = place + 1; bytes = [] } in
    is_unfinished bytes from end place values value (open_bracket ∷ close_bracket ∷ []) name h (λ none. cc)
    (subst (λ ys. WritesParts place (has_value value ∷ []) ys) e (value_parts place [] refl))

-- something else after it
pub is_alone : (bytes : List ℕ) (from end place : ℕ) → IsIdentifier bytes from end → HasRead bytes end place [] → place < length bytes → is_white (slice_index bytes place) ≡ false → slice_index bytes place ≢ open_bracket
    → (end < length bytes → is_letter (slice_index bytes end) ≡ false) → IsNameAlone bytes from place
is_alone bytes from end place name h within not_white no_value ended =
    let m : end + length (slice_range bytes end place) ≡ place = length-slice bytes end place h.after h.within in
    record {
      after = omega arith;
      in_input = within;
      before = [];
      letters = slice_range bytes from end;
      behind = slice_range bytes end place;
      is = slice-join bytes from end place (omega arith) h.after;
      before_white = refl;
      are_letters = name.letters;
      some_letters = some_identifier bytes from end name;
      behind_white = all_white end (slice_range bytes end place) h.wrote;
      not_white = not_white;
      no_value = no_value;
      no_letter = λ none.
          let l : length (slice_range bytes end place) ≡ 0 = ap (λ (ys : List ℕ). length ys) none in
          let e : end ≡ place = omega arith in
          ap (λ (i : ℕ). is_letter (slice_index bytes i)) (sym e) ∙ ended (omega arith);
    }

-- from a letter on, up to what is none
pub identifier_of : (bytes : List ℕ) (from end : ℕ) → from < length bytes → IsTrue (is_letter (slice_index bytes from)) → (from ≤ end) × (end ≤ length bytes) → IsTrue (list_all is_letter (slice_range bytes from end))
    → (end < length bytes → is_letter (slice_index bytes end) ≡ false) → IsIdentifier bytes from end
identifier_of bytes from end within letter bounds letters ended = record { forward = forward; in_input = bounds.1; letters = letters }
  where
    not_at_once : from ≡ end → ⊥
    not_at_once e = let f : is_letter (slice_index bytes from) ≡ false = ap (λ (i : ℕ). is_letter (slice_index bytes i)) e ∙ ended (omega arith) in cc

    forward : from < end
    forward = omega (arith, not_at_once)

-- the values that were read up to a place, and those that were kept
pub record ReadsValues (bytes : List ℕ) (end place : ℕ) (kept some : Bool) (items : List Value) : Type 0 where
  pub values : List PropertyValue
  pub read : HasRead bytes end place values
  pub stopped : place < length bytes → is_white (slice_index bytes place) ≡ false
  pub same : kept ≡ true → map value_of items ≡ values
  pub is_some : some ≡ true → values ≢ []
  pub is_none : some ≡ false → values ≡ []

pub pushed_some : (values : List PropertyValue) (value : PropertyValue) → values ++ value ∷ [] ≢ []
pushed_some [] value none = cc
pushed_some (one ∷ values) value none = cc
