-- Glyphs and codes, each from the other.
use Rattle.std.proofs.Common.{zero-add, ◌≡◌, ℕ, zero, suc, ◌+◌, ◌*◌, ◌%◌, ◌^◌, ◌<◌, ◌≤◌, List, [], ◌∷◌, map, length, get_or, take, true, cond, eqb, sym, refl, ap, ap₂, ◌∙◌, arith, All, ext_get_or}
use Rattle.std.proofs.lemmas.List.{length-map, get_or-map}
use Rattle.std.proofs.lemmas.List.Elements.{All-from_get_or}
use Rattle.std.proofs.lemmas.Bool.Decides.{nat_tests}
use Rattle.shape_core.specs.declared.words.Kind.{Kind}
use Rattle.shape_core.specs.declared.words.Kind.TheVariants as kind
use Rattle.shape_core.specs.Word.{sum_of, word_of, kind_of, code_at}
use Rattle.shape_core.specs.Glyph.{glyph_of, is_glyph, glyphs_of}
use Rattle.shape_core.proofs.Digits.{digits, length-digits, get_or-digits, code_at-lt, sum_of-digits}
use Rattle.std.proofs.lemmas.List.{take-map}
use Rattle.shape_core.proofs.Sums.{sum_of-more, sum_of_fits}
use Rattle.shape_core.proofs.Codes.{AreCodes, AreCodes-digits, codes_as_digits, same_words, digits-word_of, sum-lt}

glyphs_as_digits : (w : ℕ) → glyphs_of w ≡ map glyph_of (digits 25 w)
unfolding glyphs_of
glyphs_as_digits w = ap (map glyph_of) (codes_as_digits w)

get_or-glyphs_of : (w i : ℕ) → i < 25 → get_or (glyphs_of w) i 0 ≡ glyph_of (code_at w i)
get_or-glyphs_of w i h =
    ap (λ gs. get_or gs i 0) (glyphs_as_digits w) ∙ get_or-map glyph_of (digits 25 w) i 0 0 (omega (arith, length-digits 25 w)) ∙ ap glyph_of (get_or-digits 25 w i h)

pub length-glyphs_of : (w : ℕ) → length (glyphs_of w) ≡ 25
length-glyphs_of w = ap length (glyphs_as_digits w) ∙ length-map (digits 25 w) glyph_of ∙ length-digits 25 w

pub same_glyphs : (w : ℕ) (glyphs : List ℕ) → length glyphs ≡ 25 → ((k : ℕ) → k < 25 → get_or glyphs k 0 ≡ glyph_of (code_at w k)) → glyphs ≡ glyphs_of w
same_glyphs w glyphs count each =
    ext_get_or 0 glyphs (glyphs_of w) (count ∙ sym (length-glyphs_of w)) (λ i h. let l : i < 25 = omega (arith, count) in each i l ∙ sym (get_or-glyphs_of w i l))

is_glyph-glyph_of : (c : ℕ) → c < 4 → is_glyph (glyph_of c) ≡ true
is_glyph-glyph_of zero h = refl
is_glyph-glyph_of (suc zero) h = refl
is_glyph-glyph_of (suc (suc zero)) h = refl
is_glyph-glyph_of (suc (suc (suc zero))) h = refl
is_glyph-glyph_of (suc (suc (suc (suc c)))) h = absurd (omega arith)

-- the glyphs of a word are glyphs
pub each_is_glyph : (w i : ℕ) → i < 25 → is_glyph (get_or (glyphs_of w) i 0) ≡ true
each_is_glyph w i h = ap is_glyph (get_or-glyphs_of w i h) ∙ is_glyph-glyph_of (code_at w i) (code_at-lt w i)

-- the code of a glyph
abbrev pub code_from : ℕ → ℕ
code_from byte = cond (eqb byte 46) 0 (cond (eqb byte 88) 1 (cond (eqb byte 79) 2 3))

code_from-glyph_of : (c : ℕ) → c < 4 → code_from (glyph_of c) ≡ c
code_from-glyph_of zero h = refl
code_from-glyph_of (suc zero) h = refl
code_from-glyph_of (suc (suc zero)) h = refl
code_from-glyph_of (suc (suc (suc zero))) h = refl
code_from-glyph_of (suc (suc (suc (suc c)))) h = absurd (omega arith)

code_from-lt : (byte : ℕ) → code_from byte < 4
code_from-lt byte = grind (arith, nat_tests)

glyph_of-code_from : (byte : ℕ) → is_glyph byte ≡ true → glyph_of (code_from byte) ≡ byte
glyph_of-code_from byte h = grind (arith, nat_tests)

codes_small : (bytes : List ℕ) → All (λ c. c < 4) (map code_from bytes)
codes_small bytes =
    All-from_get_or (λ c. c < 4) (map code_from bytes) 0
    (λ i l. rw (get_or-map code_from bytes i 0 0 (omega (arith, length-map bytes code_from))) (code_from-lt (get_or bytes i 0)))

codes_from_glyphs : (bytes : List ℕ) → length bytes ≡ 25 → AreCodes (map code_from bytes)
codes_from_glyphs bytes h =
    record { count = length-map bytes code_from ∙ h; small = codes_small bytes }

-- the sum over the cells whose glyphs these are
pub sum_of_glyphs : List ℕ → ℕ
sum_of_glyphs bytes = sum_of (map code_from bytes)

pub sum_of_glyphs-nil : sum_of_glyphs [] ≡ 0
unfolding sum_of_glyphs
sum_of_glyphs-nil = refl

pub sum_of_glyphs-lt : (bytes : List ℕ) → length bytes ≡ 25 → sum_of_glyphs bytes < 2 ^ 50
unfolding sum_of_glyphs
sum_of_glyphs-lt bytes h = sum-lt (map code_from bytes) (codes_from_glyphs bytes h)

pub sum_of_glyphs-more : (bytes : List ℕ) (i c : ℕ) → i < length bytes → length bytes ≡ 25 → c < 4 → glyph_of c ≡ get_or bytes i 0 → sum_of_glyphs (take (i + 1) bytes) ≡ sum_of_glyphs (take i bytes) + c * 2 ^ (2 * i) % 2 ^ 64
unfolding sum_of_glyphs
sum_of_glyphs-more bytes i c h count small is =
    let code : c ≡ get_or (map code_from bytes) i 0 = sym (get_or-map code_from bytes i 0 0 h ∙ ap code_from (sym is) ∙ code_from-glyph_of c small) in
    ap sum_of (sym (take-map code_from (i + 1) bytes))
    ∙ sum_of-more (map code_from bytes) i c (codes_from_glyphs bytes count) (omega arith) code
    ∙ ap (λ cs. sum_of cs + c * 2 ^ (2 * i) % 2 ^ 64) (take-map code_from i bytes)

pub sum_of_glyphs_fits : (bytes : List ℕ) (i : ℕ) → i ≤ 25 → length bytes ≡ 25 → sum_of_glyphs (take i bytes) < 2 ^ 50
unfolding sum_of_glyphs
sum_of_glyphs_fits bytes i h count =
    rw (sym (take-map code_from i bytes)) (sum_of_fits (map code_from bytes) i (codes_from_glyphs bytes count) h)

glyphs_back : (bytes : List ℕ) → ((k : ℕ) → k < length bytes → is_glyph (get_or bytes k 0) ≡ true) → map glyph_of (map code_from bytes) ≡ bytes
glyphs_back [] h = refl
glyphs_back (b ∷ bytes) h =
    ap₂ ◌∷◌ (glyph_of-code_from b (h 0 (omega arith))) (glyphs_back bytes (λ k l. h (suc k) (omega arith)))

-- the word of either kind with this sum has these glyphs
glyphs_of-word : (k : Kind) (bytes : List ℕ) → length bytes ≡ 25 → ((i : ℕ) → i < 25 → is_glyph (get_or bytes i 0) ≡ true) → glyphs_of (word_of k (map code_from bytes)) ≡ bytes
glyphs_of-word k bytes count all =
    glyphs_as_digits (word_of k (map code_from bytes))
    ∙ ap (map glyph_of) (digits-word_of k (map code_from bytes) (codes_from_glyphs bytes count))
    ∙ glyphs_back bytes (λ i h. all i (omega arith))

pub glyphs_of-sum : (bytes : List ℕ) → length bytes ≡ 25 → ((i : ℕ) → i < 25 → is_glyph (get_or bytes i 0) ≡ true) → glyphs_of (sum_of_glyphs bytes) ≡ bytes
unfolding sum_of_glyphs
glyphs_of-sum bytes count all = ap glyphs_of (sym (zero-add (sum_of (map code_from bytes)))) ∙ glyphs_of-word kind.Square bytes count all

-- a diamond has the glyphs of its cells' sum
pub glyphs_of-diamond : (w : ℕ) → w < 2 ^ 50 → glyphs_of (2 ^ 50 + w) ≡ glyphs_of w
glyphs_of-diamond w h =
    let sum : sum_of (digits 25 w) ≡ w = omega (arith, sum_of-digits 25 w) in
    let cells = ap (λ n. digits 25 (2 ^ 50 + n)) (sym sum) ∙ digits-word_of kind.Diamond (digits 25 w) (AreCodes-digits w) in
    glyphs_as_digits (2 ^ 50 + w) ∙ ap (map glyph_of) cells ∙ sym (glyphs_as_digits w)

-- words of one kind with the same glyphs are one
pub same_from_glyphs : (v w : ℕ) → v < 2 ^ 51 → w < 2 ^ 51 → kind_of v ≡ kind_of w → glyphs_of v ≡ glyphs_of w → v ≡ w
same_from_glyphs v w p q k same =
    same_words v w p q k
    (λ i h. sym (code_from-glyph_of (code_at v i) (code_at-lt v i))
    ∙ ap code_from (sym (get_or-glyphs_of v i h) ∙ ap (λ gs. get_or gs i 0) same ∙ get_or-glyphs_of w i h)
    ∙ code_from-glyph_of (code_at w i) (code_at-lt w i))
