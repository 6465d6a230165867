-- Masks and shifts on words of 64 bits: from where each bit comes, computed once for each expression.
use Rattle.std.proofs.Common.{◌≡◌, ℕ, zero, suc, ◌+◌, ◌-◌, ◌*◌, ◌/◌, ◌%◌, ◌^◌, ◌<◌, ◌≤◌, max, min, List, [], ◌∷◌, ◌++◌, length, get_or, Bool, true, false, cond, eqb, ltb, ◌&&◌, bit_and, bit_or, sym, refl, ap, ap₂, ◌∙◌, arith, ⊎_elim, eqb-true, replicate, pow-suc, get_or-append-add, length-append}
use Rattle.std.proofs.lemmas.List.{get_or-replicate, get_or_append_left}
use Rattle.std.specs.Int.{bit_at}
use Rattle.shape_core.specs.declared.words.Kind.{Kind}
use Rattle.shape_core.specs.declared.words.Kind.TheVariants as kind
use Rattle.shape_core.specs.Word.{code_at, kind_of}
use Rattle.shape_core.proofs.Codes.{kind_below, kind_above}
use Rattle.std.proofs.Math.Nat.{div-div-eq-div-mul}
use Rattle.std.proofs.lemmas.Nat.{or_lt, and_le_l, shr_le, shr-shr, pow_pos, div-add-mod'}
use Rattle.std.proofs.lemmas.Nat.Bits.{bit_at_and, bit_at_or, bit_at-lt, same_from_bits_below, bit_at-zero, bit_at_above, bit_at_cat_low, bit_at_cat_high}
use Rattle.std.proofs.lemmas.Bool.{and_parts, cases_lt, le-ltb, lt-ltb}

-- a number of 64 bits, masked, shifted and joined
pub data Moves : Type 0 where
  whole : Moves
  masked : Moves → ℕ → Moves
  raised : Moves → ℕ → Moves
  lowered : Moves → ℕ → Moves
  joined : Moves → Moves → Moves

-- what they make of a number
abbrev pub made_of : Moves → ℕ → ℕ
made_of whole w = w
made_of (masked e m) w = bit_and (made_of e w) m
made_of (raised e s) w = made_of e w * 2 ^ s % 2 ^ 64
made_of (lowered e s) w = made_of e w / 2 ^ s
made_of (joined e f) w = bit_or (made_of e w) (made_of f w)

-- the bits of the number that come to a bit
abbrev pub sources_of : Moves → ℕ → List ℕ
sources_of whole i = i ∷ []
sources_of (masked e m) i = cond (eqb (bit_at m i) 1) (sources_of e i) []
sources_of (raised e s) i = cond (ltb i s) [] (cond (ltb i 64) (sources_of e (i - s)) [])
sources_of (lowered e s) i = sources_of e (s + i)
sources_of (joined e f) i = sources_of e i ++ sources_of f i

-- 1 where one of these bits is
abbrev pub any_of : ℕ → List ℕ → ℕ
any_of w [] = 0
any_of w (j ∷ js) = max (bit_at w j) (any_of w js)

any_of-append : (w : ℕ) (is js : List ℕ) → any_of w (is ++ js) ≡ max (any_of w is) (any_of w js)
any_of-append w [] js = omega arith
any_of-append w (i ∷ is) js = omega (arith, any_of-append w is js)

any_of-lt : (w : ℕ) (is : List ℕ) → any_of w is < 2
any_of-lt w [] = omega arith
any_of-lt w (i ∷ is) = omega (arith, any_of-lt w is, bit_at-lt w i)

masked_bit : (b m : ℕ) → m < 2 → b < 2 → min b m ≡ cond (eqb m 1) b 0
masked_bit b zero p q = omega arith
masked_bit b (suc zero) p q = omega arith
masked_bit b (suc (suc m)) p q = absurd (omega arith)

pub bit_at-lowered : (n s i : ℕ) → bit_at (n / 2 ^ s) i ≡ bit_at n (s + i)
bit_at-lowered n s i = ap (λ q. q % 2) (shr-shr n s i)

bit_at-narrowed : (n i : ℕ) → i < 64 → bit_at (n % 2 ^ 64) i ≡ bit_at n i
bit_at-narrowed n i h =
    sym (bit_at_cat_low (n / 2 ^ 64) 64 (n % 2 ^ 64) i h) ∙ ap (λ m. bit_at m i) (div-add-mod' n (2 ^ 64))

pub bit_at-raised : (n s i : ℕ) → i < 64 → s ≤ i → bit_at (n * 2 ^ s % 2 ^ 64) i ≡ bit_at n (i - s)
bit_at-raised n s i h l =
    bit_at-narrowed (n * 2 ^ s) i h
    ∙ ap (λ m. bit_at m i) (omega arith)
    ∙ bit_at_cat_high n s 0 i (pow_pos s) l

pub bit_at-raised_low : (n s i : ℕ) → i < 64 → i < s → bit_at (n * 2 ^ s % 2 ^ 64) i ≡ 0
bit_at-raised_low n s i h l =
    bit_at-narrowed (n * 2 ^ s) i h
    ∙ ap (λ m. bit_at m i) (omega arith)
    ∙ bit_at_cat_low n s 0 i l
    ∙ bit_at-zero i

any_of-cond : (w : ℕ) (b : Bool) (is : List ℕ) → any_of w (cond b is []) ≡ cond b (any_of w is) 0
any_of-cond w true is = refl
any_of-cond w false is = refl

-- each bit is that of its sources
bit_at-made_of : (e : Moves) (w i : ℕ) → bit_at (made_of e w) i ≡ any_of w (sources_of e i)
bit_at-made_of whole w i = omega arith
bit_at-made_of (masked e m) w i =
    bit_at_and (made_of e w) m i
    ∙ masked_bit (bit_at (made_of e w) i) (bit_at m i) (bit_at-lt m i) (bit_at-lt (made_of e w) i)
    ∙ ap (λ b. cond (eqb (bit_at m i) 1) b 0) (bit_at-made_of e w i)
    ∙ sym (any_of-cond w (eqb (bit_at m i) 1) (sources_of e i))
bit_at-made_of (raised e s) w i =
    ⊎_elim
    (λ (low : i < s). ⊎_elim
    (λ (within : i < 64). rw (lt-ltb i s low) (bit_at-raised_low (made_of e w) s i within low))
    (λ (above : 64 ≤ i). rw (lt-ltb i s low) (bit_at_above (made_of e w * 2 ^ s % 2 ^ 64) 64 i (omega arith) above))
    (cases_lt i 64))
    (λ (high : s ≤ i). ⊎_elim
    (λ (within : i < 64). rw (le-ltb i s high) (rw (lt-ltb i 64 within) (bit_at-raised (made_of e w) s i within high ∙ bit_at-made_of e w (i - s))))
    (λ (above : 64 ≤ i). rw (le-ltb i s high) (rw (le-ltb i 64 above) (bit_at_above (made_of e w * 2 ^ s % 2 ^ 64) 64 i (omega arith) above)))
    (cases_lt i 64))
    (cases_lt i s)
bit_at-made_of (lowered e s) w i = bit_at-lowered (made_of e w) s i ∙ bit_at-made_of e w (s + i)
bit_at-made_of (joined e f) w i =
    bit_at_or (made_of e w) (made_of f w) i
    ∙ ap₂ max (bit_at-made_of e w i) (bit_at-made_of f w i)
    ∙ sym (any_of-append w (sources_of e i) (sources_of f i))

made_of-lt : (e : Moves) (w : ℕ) → w < 2 ^ 64 → made_of e w < 2 ^ 64
made_of-lt whole w h = h
made_of-lt (masked e m) w h = omega (arith, and_le_l (made_of e w) m, made_of-lt e w h)
made_of-lt (raised e s) w h = omega arith
made_of-lt (lowered e s) w h = omega (arith, shr_le (made_of e w) s, made_of-lt e w h)
made_of-lt (joined e f) w h = or_lt 64 (made_of e w) (made_of f w) (made_of-lt e w h) (made_of-lt f w h)

-- ---- a test over all 64 bits, and what it tells

abbrev pub same_list : List ℕ → List ℕ → Bool
same_list [] [] = true
same_list (x ∷ xs) (y ∷ ys) = eqb x y && same_list xs ys
same_list _ _ = false

pub same_list-true : (xs ys : List ℕ) → same_list xs ys ≡ true → xs ≡ ys
same_list-true [] [] h = refl
same_list-true [] (y ∷ ys) h = cc
same_list-true (x ∷ xs) [] h = cc
same_list-true (x ∷ xs) (y ∷ ys) h =
    let parts = and_parts (eqb x y) (same_list xs ys) h in
    ap₂ ◌∷◌ (eqb-true x y parts.0) (same_list-true xs ys parts.1)

-- the bits of the mask and those `places` places above them, each in the other's place
abbrev pub swap : ℕ → ℕ → Moves
swap mask places = joined (raised (masked whole mask) places) (masked (lowered whole places) mask)

-- from a bit on, the sources are as listed
abbrev pub comes_from : Moves → ℕ → List (List ℕ) → Bool
comes_from e i [] = true
comes_from e i (x ∷ xs) = same_list (sources_of e i) x && comes_from e (suc i) xs

comes_from-at : (e : Moves) (i : ℕ) (xs : List (List ℕ)) → comes_from e i xs ≡ true → (k : ℕ) → k < length xs → sources_of e (i + k) ≡ get_or xs k []
comes_from-at e i [] h k l = absurd (omega arith)
comes_from-at e i (x ∷ xs) h zero l =
    ap (sources_of e) (omega arith) ∙ same_list-true (sources_of e i) x (and_parts (same_list (sources_of e i) x) (comes_from e (suc i) xs) h).0
comes_from-at e i (x ∷ xs) h (suc k) l =
    ap (sources_of e) (omega arith) ∙ comes_from-at e (suc i) xs (and_parts (same_list (sources_of e i) x) (comes_from e (suc i) xs) h).1 k (omega arith)

-- the two bits of each cell, where `low` and `high` say from which bits they come for a cell of the list
abbrev pub pairs : (ℕ → ℕ) → (ℕ → ℕ) → List ℕ → List (List ℕ)
pairs low high [] = []
pairs low high (c ∷ cs) = (low c ∷ []) ∷ (high c ∷ []) ∷ pairs low high cs

-- above the cells only the bit of a diamond
abbrev pub above : Kind → List (List ℕ)
above kind.Square = replicate 14 []
above kind.Diamond = (50 ∷ []) ∷ replicate 13 []

length-pairs : (low high : ℕ → ℕ) (cs : List ℕ) → length (pairs low high cs) ≡ 2 * length cs
length-pairs low high [] = refl
length-pairs low high (c ∷ cs) = omega (arith, length-pairs low high cs)

pairs-low : (low high : ℕ → ℕ) (cs : List ℕ) (k : ℕ) → k < length cs → get_or (pairs low high cs) (2 * k) [] ≡ low (get_or cs k 0) ∷ []
pairs-low low high [] k h = absurd (omega arith)
pairs-low low high (c ∷ cs) zero h = refl
pairs-low low high (c ∷ cs) (suc k) h =
    let twice : 2 * suc k ≡ suc (suc (2 * k)) = omega arith in
    ap (λ i. get_or (pairs low high (c ∷ cs)) i []) twice ∙ pairs-low low high cs k (omega arith)

pairs-high : (low high : ℕ → ℕ) (cs : List ℕ) (k : ℕ) → k < length cs → get_or (pairs low high cs) (suc (2 * k)) [] ≡ high (get_or cs k 0) ∷ []
pairs-high low high [] k h = absurd (omega arith)
pairs-high low high (c ∷ cs) zero h = refl
pairs-high low high (c ∷ cs) (suc k) h =
    let twice : 2 * suc k ≡ suc (suc (2 * k)) = omega arith in
    ap (λ i. get_or (pairs low high (c ∷ cs)) (suc i) []) twice ∙ pairs-high low high cs k (omega arith)

pub four_pow : (c : ℕ) → 4 ^ c ≡ 2 ^ (2 * c)
four_pow zero = refl
four_pow (suc c) =
    let twice : 2 * suc c ≡ suc (suc (2 * c)) = omega arith in
    pow-suc 4 c ∙ ap (λ p. p * 4) (four_pow c) ∙ (omega (arith, pow-suc 2 (2 * c), pow-suc 2 (suc (2 * c)))) ∙ ap (λ k. 2 ^ k) (sym twice)

-- a code is two bits
pub code_bits : (w c : ℕ) → code_at w c ≡ bit_at w (2 * c) + 2 * bit_at w (suc (2 * c))
code_bits w c =
    let power = four_pow c in
    let up : w / 2 ^ suc (2 * c) ≡ w / 2 ^ (2 * c) / 2 = ap (λ p. w / p) (pow-suc 2 (2 * c)) ∙ sym (div-div-eq-div-mul w (2 ^ (2 * c)) 2) in
    let q = w / 2 ^ (2 * c) in
    ap (λ p. (w / p) % 4) power ∙ (let four : q % 4 ≡ q % 2 + 2 * (q / 2 % 2) = omega arith in four) ∙ ap (λ x. q % 2 + 2 * (x % 2)) (sym up)

below_51 : (n : ℕ) → n < 2 ^ 64 → ((j : ℕ) → j < 13 → bit_at n (51 + j) ≡ 0) → n < 2 ^ 51
below_51 n h none =
    let zero_above : n / 2 ^ 51 ≡ 0 =
    same_from_bits_below 13 (n / 2 ^ 51) 0 (omega arith) (omega arith) (λ j l. bit_at-lowered n 51 j ∙ none j l ∙ sym (bit_at-zero j)) in
    omega arith

kind_of-bit : (n : ℕ) → n < 2 ^ 51 → kind_of n ≡ cond (eqb (bit_at n 50) 1) kind.Diamond kind.Square
kind_of-bit n h =
    ⊎_elim
    (λ (low : n < 2 ^ 50). let b : bit_at n 50 ≡ 0 = omega arith in rw (kind_below n low) (rw b refl))
    (λ (high : 2 ^ 50 ≤ n). let b : bit_at n 50 ≡ 1 = omega arith in rw (kind_above n high) (rw b refl))
    (cases_lt n (2 ^ 50))

length-above : (k : Kind) → length (above k) ≡ 14
length-above kind.Square = refl
length-above kind.Diamond = refl

above-empty : (k : Kind) (j : ℕ) → j < 13 → get_or (above k) (suc j) [] ≡ []
above-empty kind.Square j h = get_or-replicate 13 j [] [] h
above-empty kind.Diamond j h = get_or-replicate 13 j [] [] h

-- the bit of a diamond
pub marked_bit : (k : Kind) (w : ℕ) → w < 2 ^ 51 → kind_of w ≡ k → any_of w (get_or (above k) 0 []) ≡ bit_at w 50
marked_bit kind.Square w h is =
    ⊎_elim
    (λ (low : w < 2 ^ 50). sym (bit_at_above w 50 50 low (omega arith)))
    (λ (high : 2 ^ 50 ≤ w). let clash = sym is ∙ kind_above w high in cc)
    (cases_lt w (2 ^ 50))
marked_bit kind.Diamond w h is = omega arith

module _ (e : Moves) (low high : ℕ → ℕ) (cells : List ℕ) (k : Kind) (w : ℕ) (count : length cells ≡ 25) (small : w < 2 ^ 51) (mark : any_of w (get_or (above k) 0 []) ≡ bit_at w 50) (test : comes_from e 0 (pairs low high cells ++ above k) ≡ true) where
  made_bit : (i : ℕ) → i < 64 → bit_at (made_of e w) i ≡ any_of w (get_or (pairs low high cells ++ above k) i [])
  made_bit i h =
      bit_at-made_of e w i
      ∙ ap (any_of w) (ap (sources_of e) (omega arith) ∙ comes_from-at e 0 (pairs low high cells ++ above k) test i (omega (arith, length-append (pairs low high cells) (above k), length-pairs low high cells, length-above k)))

  made_above : (j : ℕ) → j < 14 → bit_at (made_of e w) (50 + j) ≡ any_of w (get_or (above k) j [])
  made_above j h =
      made_bit (50 + j) (omega arith)
      ∙ ap (any_of w) (ap (λ i. get_or (pairs low high cells ++ above k) i []) (omega (arith, length-pairs low high cells)) ∙ get_or-append-add (pairs low high cells) (above k) j [])

  pub made-lt : made_of e w < 2 ^ 51
  made-lt =
      below_51 (made_of e w) (made_of-lt e w (omega arith))
      (λ j h. ap (bit_at (made_of e w)) (omega arith) ∙ made_above (suc j) (omega arith) ∙ ap (any_of w) (above-empty k j h))

  pub kind_of-made : kind_of (made_of e w) ≡ kind_of w
  kind_of-made =
      kind_of-bit (made_of e w) made-lt
      ∙ ap (λ b. cond (eqb b 1) kind.Diamond kind.Square) (made_above 0 (omega arith) ∙ mark)
      ∙ sym (kind_of-bit w small)

  pub code_at-made : (c : ℕ) → c < 25 → code_at (made_of e w) c ≡ bit_at w (low (get_or cells c 0)) + 2 * bit_at w (high (get_or cells c 0))
  code_at-made c h =
      let len = length-pairs low high cells in
      let first : bit_at (made_of e w) (2 * c) ≡ any_of w (low (get_or cells c 0) ∷ []) =
      made_bit (2 * c) (omega arith) ∙ ap (any_of w) (get_or_append_left (pairs low high cells) (above k) [] (2 * c) (omega arith) ∙ pairs-low low high cells c (omega arith)) in
      let second : bit_at (made_of e w) (suc (2 * c)) ≡ any_of w (high (get_or cells c 0) ∷ []) =
      made_bit (suc (2 * c)) (omega arith) ∙ ap (any_of w) (get_or_append_left (pairs low high cells) (above k) [] (suc (2 * c)) (omega arith) ∙ pairs-high low high cells c (omega arith)) in
      code_bits (made_of e w) c ∙ (omega arith)
