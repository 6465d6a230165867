-- A mark after white bytes, and what comes in place of one.
use Rattle.std.proofs.Common.{◌≡◌, ◌≢◌, ℕ, ◌+◌, ◌<◌, ◌≤◌, IsTrue, List, [], ◌∷◌, ◌++◌, length, drop, refl, sym, ap, ◌∙◌, subst, arith, append_assoc}
use Rattle.std.specs.Prelude.{slice_range, slice_index}
use Rattle.std.specs.List.{list_all}
use Rattle.std.proofs.lemmas.List.{drop_all}
use Rattle.std.proofs.lemmas.List.Edits.{between_more, between_none}
use Rattle.sgf_core.specs.Bytes.{is_white, close_parenthesis, semicolon}
use Rattle.sgf_core.specs.Grammar.{Part, IsPartText, WritesParts}
use Rattle.sgf_core.specs.Inner.Pieces.{Wrote, mark_parts, IsAllowed, IsWhole, IsMarkText, ReadsMark, EndsInMark, IsNameAlone, MarkFault}
use Rattle.sgf_core.specs.declared.marks.Mark.{Mark}
use Rattle.sgf_core.specs.declared.marks.Mark.TheVariants as mark
use Rattle.sgf_core.specs.declared.marks.Expects.{Expects}
use Rattle.sgf_core.specs.declared.marks.Expects.TheVariants as expects
use Rattle.sgf_core.specs.declared.faults.SgfFault.{SgfFault}
use Rattle.sgf_core.specs.declared.faults.SgfFault.TheVariants as fault
use Rattle.sgf_core.proofs.Slices.{slice-drop, slice-join, length-slice, all-append}
use Rattle.sgf_core.proofs.Writing.{white-front, wrote-plain, mark-first}

-- white bytes in front of a mark
pub white-mark : (at : ℕ) (white : List ℕ) (m : Mark) (text : List ℕ) → IsTrue (list_all is_white white) → WritesParts (at + length white) (mark_parts m) text → WritesParts at (mark_parts m) (white ++ text)
white-mark at white m text h k =
    let first = mark-first m in
    subst (λ ps. WritesParts at ps (white ++ text)) (sym first.2) (white-front at white first.0 first.1 text h (subst (λ ps. WritesParts (at + length white) ps text) first.2 k))

pub white-wrote : (at : ℕ) (white : List ℕ) (m : Mark) (text : List ℕ) → IsTrue (list_all is_white white) → Wrote (at + length white) (mark_parts m) text → Wrote at (mark_parts m) (white ++ text)
white-wrote at white m text h k = record {
  body = white ++ k.body;
  white = k.white;
  is = ap (λ (ys : List ℕ). white ++ ys) k.is ∙ sym (append_assoc white k.body k.white);
  ends_white = k.ends_white;
  writes = white-mark at white m k.body h k.writes;
}

white-text : (at : ℕ) (white : List ℕ) (m : Mark) (text : List ℕ) → IsTrue (list_all is_white white) → IsMarkText (at + length white) m text → IsMarkText at m (white ++ text)
white-text at white mark.Begin text h k = white-mark at white mark.Begin text h k
white-text at white mark.Node text h k = white-mark at white mark.Node text h k
white-text at white mark.End text h k = white-mark at white mark.End text h k
white-text at white (mark.Prop property) text h k = white-wrote at white (mark.Prop property) text h k

text-plain : (at : ℕ) (m : Mark) (text : List ℕ) → WritesParts at (mark_parts m) text → IsMarkText at m text
text-plain at mark.Begin text h = h
text-plain at mark.Node text h = h
text-plain at mark.End text h = h
text-plain at (mark.Prop property) text h = wrote-plain at (mark_parts (mark.Prop property)) text h

pub text-wrote : (at : ℕ) (m : Mark) (text : List ℕ) → IsMarkText at m text → Wrote at (mark_parts m) text
text-wrote at mark.Begin text h = wrote-plain at (mark_parts mark.Begin) text h
text-wrote at mark.Node text h = wrote-plain at (mark_parts mark.Node) text h
text-wrote at mark.End text h = wrote-plain at (mark_parts mark.End) text h
text-wrote at (mark.Prop property) text h = h

module _ (bytes : List ℕ) (from place : ℕ) (after : from ≤ place) (within : place ≤ length bytes) (white : IsTrue (list_all is_white (slice_range bytes from place))) where
  pub reads_behind : (e : Expects) (end : ℕ) (m : Mark) → ReadsMark bytes e place end m → ReadsMark bytes e from end m
  reads_behind e end m h =
      let l : from + length (slice_range bytes from place) ≡ place = length-slice bytes from place after within in
      let forward : place < end = h.forward in
      record {
        forward = omega arith;
        in_input = h.in_input;
        allowed = h.allowed;
        wrote = subst (λ ys. IsMarkText from m ys) (sym (slice-join bytes from place end after (omega arith)))
            (white-text from (slice_range bytes from place) m (slice_range bytes place end) white (subst (λ n. IsMarkText n m (slice_range bytes place end)) (sym l) h.wrote));
        whole = h.whole;
      }

  pub ends_behind : (e : Expects) → EndsInMark bytes e place → EndsInMark bytes e from
  ends_behind e h =
      let l : from + length (slice_range bytes from place) ≡ place = length-slice bytes from place after within in
      record {
        more = h.more;
        begun = h.begun;
        allowed = h.allowed;
        some_more = h.some_more;
        writes = subst (λ ys. WritesParts from (mark_parts h.begun) ys) (sym (ap (λ (ys : List ℕ). ys ++ h.more) (slice-drop bytes from place after) ∙ append_assoc (slice_range bytes from place) (drop place bytes) h.more))
            (white-mark from (slice_range bytes from place) h.begun (drop place bytes ++ h.more) white (subst (λ n. WritesParts n (mark_parts h.begun) (drop place bytes ++ h.more)) (sym l) h.writes));
      }

  pub alone_behind : (bad : ℕ) → IsNameAlone bytes place bad → IsNameAlone bytes from bad
  alone_behind bad h = record {
    after = omega (arith, h.after);
    in_input = h.in_input;
    before = slice_range bytes from place ++ h.before;
    letters = h.letters;
    behind = h.behind;
    is = slice-join bytes from place bad after h.after ∙ (ap (λ (ys : List ℕ). slice_range bytes from place ++ ys) h.is ∙ sym (append_assoc (slice_range bytes from place) h.before (h.letters ++ h.behind)));
    before_white = all-append is_white (slice_range bytes from place) h.before white h.before_white;
    are_letters = h.are_letters;
    some_letters = h.some_letters;
    behind_white = h.behind_white;
    not_white = h.not_white;
    no_value = h.no_value;
    no_letter = h.no_letter;
  }

  pub fault_behind : (at : ℕ) (f : SgfFault) → MarkFault bytes at expects.Any place f → MarkFault bytes at expects.Any from f
  fault_behind at (fault.Truncated found) h = (h.0, ends_behind expects.Any h.1)
  fault_behind at (fault.BadByte bad) h = record {
    after = omega (arith, h.after);
    in_input = h.in_input;
    white = subst (λ ys. IsTrue (list_all is_white ys)) (sym (slice-join bytes from place bad after h.after)) (all-append is_white (slice_range bytes from place) (slice_range bytes place bad) white h.white);
    not_white = h.not_white;
    misfit = h.misfit;
  }
  fault_behind at (fault.NoValue bad) h = (h.0, alone_behind bad h.1)
  fault_behind at fault.TooLarge h = h
  fault_behind at fault.Memory h = h

  -- a mark of one byte
  pub reads_byte : (e : Expects) (m : Mark) (byte : ℕ) → place < length bytes → slice_index bytes place ≡ byte → IsAllowed e m → WritesParts place (mark_parts m) (byte ∷ []) → IsWhole bytes (place + 1) m → ReadsMark bytes e from (place + 1) m
  reads_byte e m byte before is allowed writes whole =
      let one : byte ∷ [] ≡ slice_range bytes place (place + 1) =
      ap (λ (b : ℕ). b ∷ []) (sym is) ∙ (sym (ap (λ (ys : List ℕ). ys ++ slice_index bytes place ∷ []) (between_none bytes place)) ∙ sym (between_more bytes place place 0 (omega arith) before)) in
      reads_behind e (place + 1) m (
      record {
        forward = omega arith;
        in_input = omega arith;
        allowed = allowed;
        wrote = text-plain place m (slice_range bytes place (place + 1)) (subst (λ ys. WritesParts place (mark_parts m) ys) one writes);
        whole = whole;
      }
      )

  pub ends_here : (e : Expects) → length bytes ≤ place → EndsInMark bytes e from
  ends_here expects.Node over = ends_behind expects.Node (
      record {
        more = semicolon ∷ [];
        begun = mark.Node;
        allowed = tt;
        some_more = λ none. cc;
        writes = ([], semicolon ∷ [], [], ap (λ (ys : List ℕ). ys ++ semicolon ∷ []) (drop_all place bytes over), refl, refl, refl);
      }
      )
  ends_here expects.Any over = ends_behind expects.Any (
      record {
        more = close_parenthesis ∷ [];
        begun = mark.End;
        allowed = tt;
        some_more = λ none. cc;
        writes = ([], close_parenthesis ∷ [], [], ap (λ (ys : List ℕ). ys ++ close_parenthesis ∷ []) (drop_all place bytes over), refl, refl, refl);
      }
      )
  ends_here expects.Tree over = ends_behind expects.Tree (
      record {
        more = close_parenthesis ∷ [];
        begun = mark.End;
        allowed = tt;
        some_more = λ none. cc;
        writes = ([], close_parenthesis ∷ [], [], ap (λ (ys : List ℕ). ys ++ close_parenthesis ∷ []) (drop_all place bytes over), refl, refl, refl);
      }
      )

-- a sign alone
pub writes_sign : (at : ℕ) (part : Part) (byte : ℕ) → ((n : ℕ) → IsPartText n part (byte ∷ [])) → WritesParts at (part ∷ []) (byte ∷ [])
writes_sign at part byte h = ([], byte ∷ [], [], refl, refl, h _, refl)

-- the same, where it is known by equations what may come
pub reads_sign : (bytes : List ℕ) (from place : ℕ) (e known : Expects) (m : Mark) (byte : ℕ) → (from ≤ place) × (place ≤ length bytes) → IsTrue (list_all is_white (slice_range bytes from place)) → place ≢ length bytes
    → e ≡ known → slice_index bytes place ≡ byte → IsAllowed known m → WritesParts place (mark_parts m) (byte ∷ []) → IsWhole bytes (place + 1) m → ReadsMark bytes e from (place + 1) m
reads_sign bytes from place e known m byte bounds white before is at_byte allowed writes whole =
    reads_byte bytes from place bounds.0 bounds.1 white e m byte (omega arith) at_byte (subst (λ x. IsAllowed x m) (sym is) allowed) writes whole
