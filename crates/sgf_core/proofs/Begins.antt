-- Where trees begin.
use Rattle.std.proofs.Common.{◌≡◌, ◌≢◌, ℕ, ◌+◌, ◌-◌, ◌<◌, ◌≤◌, Bool, true, false, IsTrue, List, [], ◌∷◌, ◌++◌, length, drop, refl, sym, ap, ◌∙◌, subst, inl, inr, arith, eq-eqb}
use Rattle.std.specs.Prelude.{slice_range, slice_index}
use Rattle.std.specs.List.{list_all}
use Rattle.std.proofs.lemmas.List.{drop_more, drop_all, length-drop, get_or-drop, append-nil}
use Rattle.std.proofs.lemmas.List.Folds.{list_all-append}
use Rattle.std.proofs.lemmas.Bool.Decides.{Decides-eqb}
use Rattle.memchr.specs.Find as find
use Rattle.memchr.specs.Find.{Nowhere, Passes, is_byte}
use Rattle.std.proofs.lemmas.Bool.{cases_lt, cases_eq}
use Rattle.sgf_core.specs.Bytes.{is_white, open_parenthesis, semicolon}
use Rattle.sgf_core.specs.Next.{BeginsTree, HasNoTree}
use Rattle.sgf_core.proofs.Slices.{slice-drop, slice-join, slice-first}
use Rattle.sgf_core.proofs.StateLemmas.{and-left, and-right}
use Rattle.sgf_core.proofs.Progress.{begins_at}

-- no tree begins from a place up to another
abbrev pub NoneBefore : List ℕ → ℕ → ℕ → Type 0
NoneBefore bytes from place = (earlier : ℕ) → from ≤ earlier → earlier < place → BeginsTree (drop earlier bytes) → ⊥

-- white bytes end once
pub same_white : (a b x y : List ℕ) (c d : ℕ) → IsTrue (list_all is_white a) → IsTrue (list_all is_white b) → is_white c ≡ false → is_white d ≡ false → a ++ c ∷ x ≡ b ++ d ∷ y → (a ≡ b) × (c ≡ d) × (x ≡ y)
same_white [] [] x y c d h k p q e = (refl, cc, cc)
same_white [] (b ∷ bs) x y c d h k p q e =
    let same : c ≡ b = cc in
    let other : is_white c ≡ true = ap is_white same ∙ and-left (is_white b) (list_all is_white bs) k in
    absurd cc
same_white (a ∷ as') [] x y c d h k p q e =
    let same : a ≡ d = cc in
    let other : is_white d ≡ true = ap is_white (sym same) ∙ and-left (is_white a) (list_all is_white as') h in
    absurd cc
same_white (a ∷ as') (b ∷ bs) x y c d h k p q e =
    let first : a ≡ b = cc in
    let rest : as' ++ c ∷ x ≡ bs ++ d ∷ y = cc in
    let later = same_white as' bs x y c d (and-right (is_white a) (list_all is_white as') h) (and-right (is_white b) (list_all is_white bs) k) p q rest in
    (ap (λ (z : ℕ). z ∷ as') first ∙ ap (λ (zs : List ℕ). b ∷ zs) later.0, later.1, later.2)

all-right : (p : ℕ → Bool) (xs ys : List ℕ) → IsTrue (list_all p (xs ++ ys)) → IsTrue (list_all p ys)
all-right p xs ys h = and-right (list_all p xs) (list_all p ys) (sym (list_all-append p xs ys) ∙ h)

-- each byte of a part that passes does
all-at : (p : ℕ → Bool) (bytes : List ℕ) (i j k : ℕ) → i ≤ k → k < j → k < length bytes → IsTrue (list_all p (slice_range bytes i j)) → IsTrue (p (slice_index bytes k))
all-at p bytes i j k a b within h =
    let later = all-right p (slice_range bytes i k) (slice_range bytes k j) (subst (λ ys. IsTrue (list_all p ys)) (slice-join bytes i k j a (omega arith)) h) in
    and-left (p (slice_index bytes k)) (list_all p (slice_range bytes (k + 1) j)) (subst (λ ys. IsTrue (list_all p ys)) (slice-first bytes k j b within) later)

-- what a search for a parenthesis found
module _ (bytes part : List ℕ) (from place : ℕ) (is : part ≡ drop place bytes) (none : NoneBefore bytes from place) where
  abbrev FirstPassing : ℕ → Type 0
  FirstPassing offset = find.NoneBefore (Passes (is_byte open_parenthesis) part) 0 (length part) offset × Passes (is_byte open_parenthesis) part offset

  part_at : (at : ℕ) → place ≤ at → slice_index part (at - place) ≡ slice_index bytes at
  part_at at after = ap (λ (ys : List ℕ). slice_index ys (at - place)) is ∙ (get_or-drop place bytes (at - place) 0 ∙ ap (λ (i : ℕ). slice_index bytes i) (omega arith))

  -- none up to where it is looked at
  none_passed : (end : ℕ) → Nowhere (Passes (is_byte open_parenthesis) part) 0 end → NoneBefore bytes from (place + end)
  none_passed end nowhere at after before begins =
      elim (cases_lt at place) [
        | inl low ↦ none at after low begins
        | inr high ↦ nowhere (at - place) (omega arith) (omega arith) (eq-eqb (slice_index part (at - place)) open_parenthesis (part_at at high ∙ (begins_at bytes at begins).1))
      ]

  pub none_left : Nowhere (Passes (is_byte open_parenthesis) part) 0 (length part) → HasNoTree bytes from
  none_left nowhere at after begins =
      let within = (begins_at bytes at begins).0 in
      let l : length part ≡ length bytes - place = ap (λ (ys : List ℕ). length ys) is ∙ length-drop place bytes in
      none_passed (length part) nowhere at after (omega arith) begins

  -- the first parenthesis
  pub first_sign : (offset : ℕ) → FirstPassing offset → (place + offset < length bytes) × (slice_index bytes (place + offset) ≡ open_parenthesis) × NoneBefore bytes from (place + offset)
  first_sign offset h =
      let l : length part ≡ length bytes - place = ap (λ (ys : List ℕ). length ys) is ∙ length-drop place bytes in
      let e : place + offset - place ≡ offset = omega arith in (
        omega (arith, h.0.high),
        sym (part_at (place + offset) (omega arith)) ∙ (ap (λ (i : ℕ). slice_index part i) e ∙ (Decides-eqb (slice_index part offset) open_parenthesis).0 h.1),
        none_passed offset h.0.before,
      )

-- after the parenthesis and white bytes
module _ (bytes : List ℕ) (at next : ℕ) (opens_at : slice_index bytes at ≡ open_parenthesis) (before : at < length bytes) (after : at + 1 ≤ next) (within : next ≤ length bytes) (white : IsTrue (list_all is_white (slice_range bytes (at + 1) next))) where
  pub begins_here : next < length bytes → slice_index bytes next ≡ semicolon → BeginsTree (drop at bytes)
  begins_here more here =
      record {
        white = slice_range bytes (at + 1) next;
        rest = drop (next + 1) bytes;
        begins = drop_more bytes at 0 before
            ∙ (ap (λ (c : ℕ). c ∷ drop (at + 1) bytes) opens_at
            ∙ ap (λ (ys : List ℕ). open_parenthesis ∷ ys) (slice-drop bytes (at + 1) next after ∙ ap (λ (ys : List ℕ). slice_range bytes (at + 1) next ++ ys) (drop_more bytes next 0 more ∙ ap (λ (c : ℕ). c ∷ drop (next + 1) bytes) here)));
        is_white = white;
      }

  begins_not : (next < length bytes → (is_white (slice_index bytes next) ≡ false) × (slice_index bytes next ≢ semicolon)) → BeginsTree (drop at bytes) → ⊥
  begins_not other h =
      let e : slice_index bytes at ∷ (slice_range bytes (at + 1) next ++ drop next bytes) ≡ open_parenthesis ∷ (h.white ++ semicolon ∷ h.rest) =
      sym (drop_more bytes at 0 before ∙ ap (λ (ys : List ℕ). slice_index bytes at ∷ ys) (slice-drop bytes (at + 1) next after)) ∙ h.begins in
      let behind : slice_range bytes (at + 1) next ++ drop next bytes ≡ h.white ++ semicolon ∷ h.rest = cc in
      elim (cases_lt next (length bytes)) [
        | inl more ↦
            let same = same_white (slice_range bytes (at + 1) next) h.white (drop (next + 1) bytes) h.rest (slice_index bytes next) semicolon white h.is_white (other more).0 refl
            (ap (λ (ys : List ℕ). slice_range bytes (at + 1) next ++ ys) (sym (drop_more bytes next 0 more)) ∙ behind) in
            (other more).1 same.1
        | inr over ↦
            let all : slice_range bytes (at + 1) next ≡ h.white ++ semicolon ∷ h.rest = sym (append-nil (slice_range bytes (at + 1) next)) ∙ (ap (λ (ys : List ℕ). slice_range bytes (at + 1) next ++ ys) (sym (drop_all next bytes over)) ∙ behind) in
            let f : IsTrue (is_white semicolon) = and-left (is_white semicolon) (list_all is_white h.rest) (all-right is_white h.white (semicolon ∷ h.rest) (subst (λ ys. IsTrue (list_all is_white ys)) all white)) in
            absurd cc
      ]

  pub none_up_to : (from : ℕ) → NoneBefore bytes from at → (next < length bytes → (is_white (slice_index bytes next) ≡ false) × (slice_index bytes next ≢ semicolon)) → NoneBefore bytes from next
  none_up_to from none other earlier later low begins =
      elim (cases_lt earlier at) [
        | inl less ↦ none earlier later less begins
        | inr over ↦ elim (cases_eq at earlier) [
          | inl same ↦ begins_not other (subst (λ i. BeginsTree (drop i bytes)) (sym same) begins)
          | inr apart ↦
              let found = begins_at bytes earlier begins in
              let f : IsTrue (is_white open_parenthesis) = subst (λ b. IsTrue (is_white b)) found.1 (all-at is_white bytes (at + 1) next earlier (omega arith) low found.0 white) in
              absurd cc
        ]
      ]
