-- The exchange of colours: it undoes itself, and commutes with each image.
use Rattle.std.proofs.Common.{◌≡◌, ℕ, zero, suc, ◌+◌, ◌*◌, ◌^◌, ◌<◌, List, ◌++◌, map, get_or, Bool, true, max, ◌/◌, ◌%◌, bit_and, sym, refl, ap, ◌∙◌, arith, All, [], ◌∷◌}
use Rattle.std.specs.Int.{bit_at}
use Rattle.std.specs.Int.Bits.{and_zero_r}
use Rattle.std.proofs.lemmas.Nat.{and_block, and_mask}
use Rattle.std.proofs.lemmas.Nat.Bits.{bit_at-lt}
use Rattle.std.proofs.lemmas.List.{length-map, get_or-map}
use Rattle.std.proofs.lemmas.List.Elements.{All-from_get_or, All-head, All-tail}
use Rattle.shape_core.specs.declared.words.Kind.TheVariants as kind
use Rattle.shape_core.specs.declared.symmetries.Symmetry.{Symmetry}
use Rattle.shape_core.specs.Word.{sum_of, mark_of, word_of, kind_of, code_at, count_from}
use Rattle.shape_core.specs.Symmetry.{image_of, exchange_of, exchanged_code}
use Rattle.shape_core.proofs.Digits.{digits, digits-lt, code_at-lt, length-digits, get_or-digits}
use Rattle.shape_core.proofs.Codes.{AreCodes, word_is, codes_as_digits, word_of-lt, kind_of-word_of, code_at-word_of, same_words}
use Rattle.shape_core.proofs.Moves.{Moves, made_of, comes_from, pairs, above, made-lt, kind_of-made, code_at-made, code_bits}
use Rattle.shape_core.proofs.Images.{sources, image_of_small, kind_of-image, code_at-image, cell-lt, count_from-at, low_bit, high_bit}

exchanged-lt : (c : ℕ) → c < 4 → exchanged_code c < 4
exchanged-lt zero h = omega arith
exchanged-lt (suc zero) h = omega arith
exchanged-lt (suc (suc zero)) h = omega arith
exchanged-lt (suc (suc (suc zero))) h = omega arith
exchanged-lt (suc (suc (suc (suc c)))) h = absurd (omega arith)

exchanged-exchanged : (c : ℕ) → c < 4 → exchanged_code (exchanged_code c) ≡ c
exchanged-exchanged zero h = refl
exchanged-exchanged (suc zero) h = refl
exchanged-exchanged (suc (suc zero)) h = refl
exchanged-exchanged (suc (suc (suc zero))) h = refl
exchanged-exchanged (suc (suc (suc (suc c)))) h = absurd (omega arith)

exchanged_bits : (a b : ℕ) → a < 2 → b < 2 → b + 2 * a ≡ exchanged_code (a + 2 * b)
exchanged_bits zero zero p q = refl
exchanged_bits (suc zero) zero p q = refl
exchanged_bits zero (suc zero) p q = refl
exchanged_bits (suc zero) (suc zero) p q = refl
exchanged_bits (suc (suc a)) b p q = absurd (omega arith)
exchanged_bits a (suc (suc b)) p q = absurd (omega arith)

exchanged_codes : ℕ → List ℕ
exchanged_codes w = map exchanged_code (digits 25 w)

AreCodes-exchanged : (w : ℕ) → AreCodes (exchanged_codes w)
unfolding exchanged_codes
AreCodes-exchanged w =
    let count = length-map (digits 25 w) exchanged_code ∙ length-digits 25 w in
    record {
      count = count;
      small = All-from_get_or (λ c. c < 4) (exchanged_codes w) 0
          (λ i l. rw (get_or-map exchanged_code (digits 25 w) i 0 0 (omega (arith, length-digits 25 w)))
          (exchanged-lt (get_or (digits 25 w) i 0) (rw (get_or-digits 25 w i (omega arith)) (code_at-lt w i))));
    }

exchange_is : (w : ℕ) → exchange_of w ≡ word_of (kind_of w) (exchanged_codes w)
unfolding exchange_of exchanged_codes
exchange_is w = ap (λ cs. word_of (kind_of w) (map exchanged_code cs)) (codes_as_digits w)

pub exchange_of_small : (w : ℕ) → exchange_of w < 2 ^ 51
exchange_of_small w = rw (exchange_is w) (word_of-lt (kind_of w) (exchanged_codes w) (AreCodes-exchanged w))

pub kind_of-exchange : (w : ℕ) → kind_of (exchange_of w) ≡ kind_of w
kind_of-exchange w = ap kind_of (exchange_is w) ∙ kind_of-word_of (kind_of w) (exchanged_codes w) (AreCodes-exchanged w)

code_at-exchange : (w i : ℕ) → i < 25 → code_at (exchange_of w) i ≡ exchanged_code (code_at w i)
unfolding exchanged_codes
code_at-exchange w i h =
    ap (λ v. code_at v i) (exchange_is w)
    ∙ code_at-word_of (kind_of w) (exchanged_codes w) i (AreCodes-exchanged w) h
    ∙ get_or-map exchanged_code (digits 25 w) i 0 0 (omega (arith, length-digits 25 w))
    ∙ ap exchanged_code (get_or-digits 25 w i h)

pub exchange-exchange : (w : ℕ) → w < 2 ^ 51 → exchange_of (exchange_of w) ≡ w
exchange-exchange w small =
    same_words (exchange_of (exchange_of w)) w (exchange_of_small (exchange_of w)) small
    (kind_of-exchange (exchange_of w) ∙ kind_of-exchange w)
    (λ i h. code_at-exchange (exchange_of w) i h ∙ ap exchanged_code (code_at-exchange w i h) ∙ exchanged-exchanged (code_at w i) (code_at-lt w i))

pub exchange-image : (s : Symmetry) (w : ℕ) → exchange_of (image_of s w) ≡ image_of s (exchange_of w)
exchange-image s w =
    same_words (exchange_of (image_of s w)) (image_of s (exchange_of w)) (exchange_of_small (image_of s w)) (image_of_small s (exchange_of w))
    (kind_of-exchange (image_of s w) ∙ kind_of-image s w ∙ sym (kind_of-exchange w) ∙ sym (kind_of-image s (exchange_of w)))
    (λ i h. code_at-exchange (image_of s w) i h
    ∙ ap exchanged_code (code_at-image s w i h)
    ∙ sym (code_at-exchange w (get_or (sources (kind_of w) s) i 0) (cell-lt (kind_of w) s i h))
    ∙ ap (λ k. code_at (exchange_of w) (get_or (sources k s) i 0)) (sym (kind_of-exchange w))
    ∙ sym (code_at-image s (exchange_of w) i h))

-- the masks and shifts exchange the two bits of each cell, and keep the bit of a diamond
abbrev pub makes_exchange : Moves → Bool
makes_exchange e = comes_from e 0 (pairs high_bit low_bit (count_from 0 25) ++ above kind.Diamond)

pub made_exchange : (e : Moves) (w : ℕ) → makes_exchange e ≡ true → w < 2 ^ 51 → made_of e w ≡ exchange_of w
made_exchange e w test small =
    let k = kind.Diamond in
    let mark : max (bit_at w 50) 0 ≡ bit_at w 50 = omega arith in
    same_words (made_of e w) (exchange_of w) (made-lt e high_bit low_bit (count_from 0 25) k w refl small mark test) (exchange_of_small w)
    (kind_of-made e high_bit low_bit (count_from 0 25) k w refl small mark test ∙ sym (kind_of-exchange w))
    (λ i h. let at = count_from-at 25 0 i h in
    code_at-made e high_bit low_bit (count_from 0 25) k w refl small mark test i h
    ∙ ap (λ c. bit_at w (suc (2 * c)) + 2 * bit_at w (2 * c)) (at ∙ (omega arith))
    ∙ exchanged_bits (bit_at w (2 * i)) (bit_at w (suc (2 * i))) (bit_at-lt w (2 * i)) (bit_at-lt w (suc (2 * i)))
    ∙ ap exchanged_code (sym (code_bits w i))
    ∙ sym (code_at-exchange w i h))

-- ---- the same by sums: twice an exchanged code is the code and three times its lower bit

-- the lower bits of n cells
lower_bits : ℕ → ℕ
lower_bits zero = 0
lower_bits (suc n) = lower_bits n * 2 ^ 2 + 1

-- the lower bits of codes
abbrev halves : List ℕ → List ℕ
halves codes = map (λ c. c % 2) codes

and_lower_bits : (n w : ℕ) → bit_and w (lower_bits n) ≡ sum_of (halves (digits n w))
unfolding lower_bits digits
and_lower_bits zero w = and_zero_r w
and_lower_bits (suc n) w =
    let whole : w / 4 * 2 ^ 2 + w % 4 ≡ w = omega arith in
    let block = and_block 2 (w / 4) (lower_bits n) (w % 4) 1 (omega arith) (omega arith) in
    ap (λ x. bit_and x (lower_bits n * 2 ^ 2 + 1)) (sym whole) ∙ block ∙ omega (arith, and_mask (w % 4) 1, and_lower_bits n (w / 4))

twice_code : (c : ℕ) → c < 4 → 2 * exchanged_code c ≡ c + 3 * (c % 2)
twice_code zero h = refl
twice_code (suc zero) h = refl
twice_code (suc (suc zero)) h = refl
twice_code (suc (suc (suc zero))) h = refl
twice_code (suc (suc (suc (suc c)))) h = absurd (omega arith)

twice_codes : (codes : List ℕ) → All (λ c. c < 4) codes → 2 * sum_of (map exchanged_code codes) ≡ sum_of codes + 3 * sum_of (halves codes)
twice_codes [] h = refl
twice_codes (c ∷ codes) h =
    omega (arith, twice_code c (All-head (λ c. c < 4) c codes h), twice_codes codes (All-tail (λ c. c < 4) c codes h))

-- the lower bits of all cells
abbrev pub lower_of : ℕ → ℕ
lower_of w = bit_and w 0x1555555555555

pub twice_exchange : (w : ℕ) → w < 2 ^ 51 → 2 * exchange_of w ≡ w + 3 * lower_of w + mark_of (kind_of w)
unfolding exchanged_codes lower_bits
twice_exchange w small =
    let is = exchange_is w in
    let codes = twice_codes (digits 25 w) (digits-lt 25 w) in
    let lower : lower_of w ≡ sum_of (halves (digits 25 w)) = and_lower_bits 25 w in
    omega (arith, is, codes, lower, word_is w small)
