-- What white bytes, letters and a value's bytes lead to.
use Rattle.std.proofs.Common.{◌≡◌, ◌⊎◌, ℕ, Bool, true, false, IsTrue, List, [], ◌∷◌, refl, ap, ◌∙◌, inl, inr, arith}
use Rattle.std.specs.Prelude.{◌==◌, ◌&&◌}
use Rattle.std.specs.List.{list_all}
use Rattle.std.proofs.lemmas.Bool.Decides.{nat_tests}
use Rattle.sgf_core.specs.Bytes.{is_white, is_letter, open_parenthesis, close_parenthesis, open_bracket, close_bracket, backslash, semicolon}
use Rattle.sgf_core.specs.Grammar.{is_text_after}
use Rattle.sgf_core.proofs.States.{Phase, begun, in_node, in_name, named, in_value, escaped, valued, after_tree, live, step, run, IsBetween}

pub and-left : (a b : Bool) → IsTrue (a && b) → IsTrue a
and-left true b h = refl
and-left false b h = h

pub and-right : (a b : Bool) → IsTrue (a && b) → IsTrue b
and-right true b h = h
and-right false b h = cc

-- a letter is neither white nor a sign
pub letter-facts : (byte : ℕ) → IsTrue (is_letter byte) → (is_white byte ≡ false) × ((byte == semicolon) ≡ false) × ((byte == open_bracket) ≡ false) × ((byte == close_bracket) ≡ false) × ((byte == backslash) ≡ false) × ((byte == open_parenthesis) ≡ false) × ((byte == close_parenthesis) ≡ false)
letter-facts byte h = grind (arith, nat_tests)

white-step : (phase : Phase) (depth byte : ℕ) → IsBetween phase → IsTrue (is_white byte) → step (live phase depth) byte ≡ live phase depth
white-step begun depth byte between h = rw h refl
white-step in_node depth byte between h = rw h refl
white-step in_name depth byte between h = absurd between
white-step named depth byte between h = rw h refl
white-step in_value depth byte between h = absurd between
white-step escaped depth byte between h = absurd between
white-step valued depth byte between h = rw h refl
white-step after_tree depth byte between h = rw h refl

-- white bytes between parts change nothing
pub run-white : (phase : Phase) (depth : ℕ) (white : List ℕ) → IsBetween phase → IsTrue (list_all is_white white) → run (live phase depth) white ≡ live phase depth
run-white phase depth [] between h = refl
run-white phase depth (byte ∷ white) between h =
    ap (λ s. run s white) (white-step phase depth byte between (and-left _ _ h)) ∙ run-white phase depth white between (and-right (is_white byte) _ h)

-- a name goes on by letters
pub run-letters : (depth : ℕ) (letters : List ℕ) → IsTrue (list_all is_letter letters) → run (live in_name depth) letters ≡ live in_name depth
run-letters depth [] h = refl
run-letters depth (byte ∷ letters) h =
    let first : IsTrue (is_letter byte) = and-left _ _ h in
    let now : step (live in_name depth) byte ≡ live in_name depth = rw first refl in
    ap (λ s. run s letters) now ∙ run-letters depth letters (and-right (is_letter byte) _ h)

-- after a name, white bytes leave only a value to come
pub run-name-white : (depth : ℕ) (white : List ℕ) → IsTrue (list_all is_white white) → (run (live in_name depth) white ≡ live in_name depth) ⊎ (run (live in_name depth) white ≡ live named depth)
run-name-white depth [] h = inl refl
run-name-white depth (byte ∷ white) h =
    let first : IsTrue (is_white byte) = and-left _ _ h in
    let no_letter : is_letter byte ≡ false = grind (arith, nat_tests) in
    let now : step (live in_name depth) byte ≡ live named depth = rw (no_letter, first) refl in
    inr (ap (λ s. run s white) now ∙ run-white named depth white tt (and-right (is_white byte) _ h))

abbrev pub value_phase : Bool → Phase
value_phase true = escaped
value_phase false = in_value

run_text_byte : (byte depth : ℕ) (text : List ℕ) (closes escapes : Bool) → (byte == close_bracket) ≡ closes → (byte == backslash) ≡ escapes → IsTrue (is_text_after false (byte ∷ text))
    → (IsTrue (is_text_after true text) → run (live escaped depth) text ≡ live in_value depth)
    → (IsTrue (is_text_after false text) → run (live in_value depth) text ≡ live in_value depth)
    → run (live in_value depth) (byte ∷ text) ≡ live in_value depth
run_text_byte byte depth text true escapes a b h after plain = let f : IsTrue false = rw a at h in cc
run_text_byte byte depth text false true a b h after plain =
    let now : step (live in_value depth) byte ≡ live escaped depth = rw (a, b) refl in
    ap (λ s. run s text) now ∙ after (rw (a, b) at h)
run_text_byte byte depth text false false a b h after plain =
    let now : step (live in_value depth) byte ≡ live in_value depth = rw (a, b) refl in
    ap (λ s. run s text) now ∙ plain (rw (a, b) at h)

-- a value's text ends within the value
pub run-text : (escape : Bool) (depth : ℕ) (text : List ℕ) → IsTrue (is_text_after escape text) → run (live (value_phase escape) depth) text ≡ live in_value depth
run-text false depth [] h = refl
run-text true depth [] h = cc
run-text true depth (byte ∷ text) h = run-text false depth text h
run-text false depth (byte ∷ text) h = run_text_byte byte depth text (byte == close_bracket) (byte == backslash) refl refl h (run-text true depth text) (run-text false depth text)
