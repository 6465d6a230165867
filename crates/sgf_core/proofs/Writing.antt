-- Parts that are written one after the other.
use Rattle.std.proofs.Common.{◌≡◌, ℕ, ◌+◌, IsTrue, List, [], ◌∷◌, ◌++◌, length, refl, sym, ap, ◌∙◌, subst, arith, length-append, append_assoc}
use Rattle.std.specs.List.{list_all}
use Rattle.std.proofs.lemmas.List.{append-nil}
use Rattle.sgf_core.specs.Bytes.{is_white}
use Rattle.sgf_core.specs.Grammar.{Part, IsPartText, WritesParts}
use Rattle.sgf_core.specs.Inner.Pieces.{Wrote, mark_parts}
use Rattle.sgf_core.specs.declared.marks.Mark.{Mark}
use Rattle.sgf_core.specs.declared.marks.Mark.TheVariants as mark
use Rattle.sgf_core.proofs.Slices.{all-append}

-- white bytes in front of a part
pub white-front : (at : ℕ) (white : List ℕ) (part : Part) (parts : List Part) (text : List ℕ) → IsTrue (list_all is_white white)
    → WritesParts (at + length white) (part ∷ parts) text → WritesParts at (part ∷ parts) (white ++ text)
white-front at white part parts text h (w, written, rest, is, hw, hp, hr) =
    let e : at + length white + length w ≡ at + length (white ++ w) = omega (arith, length-append {A = ℕ}) in (
      white ++ w,
      written,
      rest,
      ap (λ (ys : List ℕ). white ++ ys) is ∙ simp append_assoc,
      all-append is_white white w h hw,
      subst (λ n. IsPartText n part written) e hp,
      subst (λ n. WritesParts (n + length written) parts rest) e hr,
    )

-- and some after them
pub parts-append : (at : ℕ) (parts more : List Part) (a b : List ℕ) → WritesParts at parts a → WritesParts (at + length a) more b → WritesParts at (parts ++ more) (a ++ b)
parts-append at [] more a b none h =
    let e : at + length a ≡ at = ap (λ (ys : List ℕ). at + length ys) none ∙ omega arith in
    subst (λ ys. WritesParts at more (ys ++ b)) (sym none) (subst (λ n. WritesParts n more b) e h)
parts-append at (part ∷ parts) more a b (w, written, rest, is, hw, hp, hr) h =
    let l : length a ≡ length w + length written + length rest = ap (λ (ys : List ℕ). length ys) is ∙ simp length-append refl in
    let e : at + length a ≡ at + length w + length written + length rest = omega arith in (
      w,
      written,
      rest ++ b,
      ap (λ (ys : List ℕ). ys ++ b) is ∙ append_assoc (w ++ written) rest b,
      hw,
      hp,
      parts-append (at + length w + length written) parts more rest b hr (subst (λ n. WritesParts n more b) e h),
    )

pub wrote-plain : (at : ℕ) (parts : List Part) (a : List ℕ) → WritesParts at parts a → Wrote at parts a
wrote-plain at parts a h = record { body = a; white = []; is = sym (append-nil a); ends_white = refl; writes = h }

pub wrote-white : (at : ℕ) (parts : List Part) (a white : List ℕ) → Wrote at parts a → IsTrue (list_all is_white white) → Wrote at parts (a ++ white)
wrote-white at parts a white h w = record {
  body = h.body;
  white = h.white ++ white;
  is = ap (λ (ys : List ℕ). ys ++ white) h.is ∙ append_assoc h.body h.white white;
  ends_white = all-append is_white h.white white h.ends_white w;
  writes = h.writes;
}

pub wrote-then : (at : ℕ) (parts : List Part) (part : Part) (more : List Part) (a b : List ℕ) → Wrote at parts a → WritesParts (at + length a) (part ∷ more) b → WritesParts at (parts ++ part ∷ more) (a ++ b)
wrote-then at parts part more a b h k =
    let l : length a ≡ length h.body + length h.white = ap (λ (ys : List ℕ). length ys) h.is ∙ length-append h.body h.white in
    let e : at + length a ≡ at + length h.body + length h.white = omega arith in
    let behind = white-front (at + length h.body) h.white part more b h.ends_white (subst (λ n. WritesParts n (part ∷ more) b) e k) in
    subst (λ ys. WritesParts at (parts ++ part ∷ more) ys) (sym (append_assoc h.body h.white b) ∙ ap (λ (ys : List ℕ). ys ++ b) (sym h.is))
    (parts-append at parts (part ∷ more) h.body (h.white ++ b) h.writes behind)

pub wrote-wrote : (at : ℕ) (parts : List Part) (part : Part) (more : List Part) (a b : List ℕ) → Wrote at parts a → Wrote (at + length a) (part ∷ more) b → Wrote at (parts ++ part ∷ more) (a ++ b)
wrote-wrote at parts part more a b h k = record {
  body = a ++ k.body;
  white = k.white;
  is = ap (λ (ys : List ℕ). a ++ ys) k.is ∙ sym (append_assoc a k.body k.white);
  ends_white = k.ends_white;
  writes = wrote-then at parts part more a k.body h k.writes;
}

-- a mark is some part, and perhaps others
pub mark-first : (m : Mark) → (part : Part) × (more : List Part) × (mark_parts m ≡ part ∷ more)
mark-first mark.Begin = (_, _, refl)
mark-first mark.Node = (_, _, refl)
mark-first (mark.Prop p) = (_, _, refl)
mark-first mark.End = (_, _, refl)
