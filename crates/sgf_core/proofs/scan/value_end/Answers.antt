use Rattle.std.proofs.Common.{◌≡◌, ℕ, ◌+◌, ◌≤◌, ◌<◌, Bool, true, false, List, [], ◌∷◌, ◌++◌, length, sym, ap, ◌∙◌, arith, refl, inl, inr}
use Rattle.std.specs.Prelude.{slice_range, slice_index, ◌==◌, not, ◌≢◌, ◌⊎◌, IsTrue}
use Rattle.std.proofs.lemmas.List.{append-nil, append_assoc}
use Rattle.std.proofs.lemmas.Bool.Decides.{nat_tests}
use Rattle.std.proofs.lemmas.List.Edits.{between_more}
use Rattle.std.proofs.lemmas.Slice.{between_to_end}
use Rattle.sgf_core.specs.Bytes.{close_bracket, backslash}
use Rattle.sgf_core.specs.Grammar.{is_text_after}
use Rattle.sgf_core.proofs.scan.value_end.Goals as goal
use Rattle.sgf_core.proofs.scan.value_end.Goals.{then-byte-eq92, else-byte-eq92}

abbrev GoesOn : List ℕ → ℕ → ℕ → Bool → Type 0
GoesOn bytes from place escaped = (rest : List ℕ) → is_text_after false (slice_range bytes from place ++ rest) ≡ is_text_after escaped rest

goes_on : (bytes : List ℕ) (from place : ℕ) (escaped now : Bool) → from ≤ place → place < length bytes → GoesOn bytes from place escaped
    → ((rest : List ℕ) → is_text_after escaped (slice_index bytes place ∷ rest) ≡ is_text_after now rest) → GoesOn bytes from (place + 1) now
goes_on bytes from place escaped now a b before one rest =
    ap (λ (ys : List ℕ). is_text_after false (ys ++ rest)) (between_more bytes from place 0 a b)
    ∙ (ap (λ (ys : List ℕ). is_text_after false ys) (append_assoc (slice_range bytes from place) (slice_index bytes place ∷ []) rest) ∙ (before (slice_index bytes place ∷ rest) ∙ one rest))

differs : (a b : ℕ) → a ≢ b → (a == b) ≡ false
differs a b h = grind (arith, nat_tests)

-- a byte that doesn't close the value
no_close : (byte : ℕ) (escaped now : Bool) → ((byte ≡ close_bracket) × (escaped ≡ true)) ⊎ (byte ≢ close_bracket) → ((byte ≡ backslash) × (now ≡ not escaped)) ⊎ ((byte ≢ backslash) × (now ≡ false))
    → (rest : List ℕ) → is_text_after escaped (byte ∷ rest) ≡ is_text_after now rest
no_close byte true now stays is rest =
    let plain : now ≡ false = grind arith in
    rw plain refl
no_close byte false now stays is rest =
    let differs : (byte == close_bracket) ≡ false = grind (arith, nat_tests) in
    let follows : (byte == backslash) ≡ now = grind (arith, nat_tests) in
    rw (differs, follows) refl

pub loop-place-preserved : goal.loop-place-preserved
loop-place-preserved c =
    let byte = slice_index c.args.bytes.now c.loop-place.place in
    let next : ((byte ≡ backslash) × (c.if-byte-eq92.escaped ≡ not c.loop-place.escaped)) ⊎ ((byte ≢ backslash) × (c.if-byte-eq92.escaped ≡ false)) =
    elim c.if-byte-eq92.branch [
      | then-byte-eq92 w ↦ inl (w.if-byte-eq92.true, w.escaped-is)
      | else-byte-eq92 w ↦ inr (w.if-byte-eq92.false, w.escaped-is ∙ differs byte backslash w.if-byte-eq92.false)
    ] in
    goes_on c.args.bytes.now c.args.from c.loop-place.place c.loop-place.escaped c.if-byte-eq92.escaped c.loop-place.auto.place c.loop-place-test.true c.loop-place.invariant
    (no_close byte c.loop-place.escaped c.if-byte-eq92.escaped c.else-byte-eq93.either next)

pub returns-then-not-escaped : goal.returns-then-not-escaped
returns-then-not-escaped c =
    let text = slice_range c.args.bytes.now c.args.from c.loop-place.place in (
      c.loop-place.auto.place,
      c.loop-place-test.true,
      c.if-byte-eq93.true,
      ap (λ (ys : List ℕ). is_text_after false ys) (sym (append-nil text)) ∙ (c.loop-place.invariant [] ∙ ap not c.if-not-escaped.true),
    )

-- what ends a value's text
ending : (escaped : Bool) → (more : List ℕ) × IsTrue (is_text_after escaped more)
ending true = (0 ∷ [], refl)
ending false = ([], refl)

pub returns : goal.returns
returns c =
    let end = ending c.loop-place.escaped in
    (end.0, ap (λ (ys : List ℕ). is_text_after false (ys ++ end.0)) (sym (between_to_end c.args.bytes.now c.args.from c.loop-place.place c.loop-place-test.false)) ∙ (c.loop-place.invariant end.0 ∙ end.1))
