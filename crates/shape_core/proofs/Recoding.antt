-- A code changed in a word is changed in each of its images.
use Rattle.std.proofs.Common.{◌≡◌, ℕ, ◌+◌, ◌*◌, ◌/◌, ◌%◌, ◌^◌, ◌<◌, List, [], ◌∷◌, map, get_or, bit_xor, sym, refl, ap, ap₂, subst, ◌∙◌, arith, ⊎_elim}
use Rattle.std.proofs.lemmas.Bool.{cases_eq}
use Rattle.std.proofs.lemmas.List.{get_or-map}
use Rattle.std.proofs.lemmas.Nat.{pow_pos, xor_block, xor_lt}
use Rattle.std.specs.Int.Bits.{xor_zero_r, xor_zero_l, xor_assoc, xor_self}
use Rattle.shape_core.specs.declared.words.Kind.{Kind}
use Rattle.shape_core.specs.declared.words.Kind.TheVariants as kind
use Rattle.shape_core.specs.declared.symmetries.Symmetry.{Symmetry}
use Rattle.shape_core.specs.declared.symmetries.Symmetry.TheVariants as symmetry
use Rattle.shape_core.specs.Symmetry.{image_of}
use Rattle.shape_core.specs.Word.{kind_of, code_at, count_from}
use Rattle.shape_core.specs.Inner.Word.{recoded, with_change}
use Rattle.shape_core.specs.Inner.Images.{AreImages, code_in}
use Rattle.shape_core.proofs.Codes.{same_words, recoded_small, kind_of-recoded, recoded_here, recoded_other, recoded_sum}
use Rattle.shape_core.proofs.Images.{sources, length-sources, image_of_small, kind_of-image, code_at-image, cell-lt, count_from-at}
use Rattle.shape_core.proofs.Moves.{four_pow}

-- a symmetry that, made twice, moves nothing
abbrev pub ComesBack : Kind → Symmetry → Type 0
ComesBack k s = map (λ j. get_or (sources k s) j 0) (sources k s) ≡ count_from 0 25

pub falling_back : (k : Kind) → ComesBack k symmetry.FallingDiagonal
unfolding sources
falling_back kind.Square = refl
falling_back kind.Diamond = refl

pub left_right_back : (k : Kind) → ComesBack k symmetry.LeftRight
unfolding sources
left_right_back kind.Square = refl
left_right_back kind.Diamond = refl

pub top_bottom_back : (k : Kind) → ComesBack k symmetry.TopBottom
unfolding sources
top_bottom_back kind.Square = refl
top_bottom_back kind.Diamond = refl

twice : (k : Kind) (s : Symmetry) (j : ℕ) → ComesBack k s → j < 25 → get_or (sources k s) (get_or (sources k s) j 0) 0 ≡ j
twice k s j back h =
    sym (get_or-map (λ i. get_or (sources k s) i 0) (sources k s) j 0 0 (omega (arith, length-sources k s)))
    ∙ ap (λ xs. get_or xs j 0) back
    ∙ count_from-at 25 0 j h
    ∙ (omega arith)

-- the image of a word with a code changed is its image with the code changed where the symmetry moves it
pub image-recoded : (s : Symmetry) (w i c : ℕ) → ComesBack (kind_of w) s → i < 25 → c < 4 →
    image_of s (recoded w i c) ≡ recoded (image_of s w) (get_or (sources (kind_of w) s) i 0) c
image-recoded s w i c back l h =
    let k = kind_of w in
    let t = get_or (sources k s) i 0 in
    same_words (image_of s (recoded w i c)) (recoded (image_of s w) t c) (image_of_small s (recoded w i c)) (recoded_small (image_of s w) t c h)
    (kind_of-image s (recoded w i c) ∙ kind_of-recoded w i c h ∙ sym (kind_of-image s w) ∙ sym (kind_of-recoded (image_of s w) t c h))
    (λ j m.
    let from = get_or (sources k s) j 0 in
    code_at-image s (recoded w i c) j m
    ∙ ap (λ q. code_at (recoded w i c) (get_or (sources q s) j 0)) (kind_of-recoded w i c h)
    ∙ ⊎_elim
    (λ (here : from ≡ i).
    let at : t ≡ j = ap (λ x. get_or (sources k s) x 0) (sym here) ∙ twice k s j back m in
    ap (code_at (recoded w i c)) here ∙ recoded_here w i c h l
    ∙ sym (ap (λ x. code_at (recoded (image_of s w) x c) j) at ∙ recoded_here (image_of s w) j c h m))
    (λ (other : from ≡ i → ⊥).
    let apart : j ≡ t → ⊥ = λ e. other (ap (λ x. get_or (sources k s) x 0) e ∙ twice k s i back l) in
    recoded_other w i c from h (cell-lt k s j m) other
    ∙ sym (recoded_other (image_of s w) t c j h m apart ∙ code_at-image s w j m))
    (cases_eq from i))

-- ---- the bits of a cell

-- bits of a code changed in a number are changed there and nowhere else
xor_high : (w k d : ℕ) → d < 4 → bit_xor w (d * 2 ^ k) + w / 2 ^ k % 4 * 2 ^ k ≡ w + bit_xor (w / 2 ^ k % 4) d * 2 ^ k
xor_high w k d h =
    let p = 2 ^ k in
    let high = w / p in
    let some : 0 < p = pow_pos k in
    let low : w % p < p = omega arith in
    let whole : high * p + w % p ≡ w = omega arith in
    let block : bit_xor (high * p + w % p) (d * p + 0) ≡ bit_xor high d * p + bit_xor (w % p) 0 = xor_block k high d (w % p) 0 low some in
    let digit : bit_xor (high / 4 * 2 ^ 2 + high % 4) (0 * 2 ^ 2 + d) ≡ bit_xor (high / 4) 0 * 2 ^ 2 + bit_xor (high % 4) d =
    xor_block 2 (high / 4) 0 (high % 4) d (omega arith) h in
    let parts : high / 4 * 2 ^ 2 + high % 4 ≡ high = omega arith in
    let alone : 0 * 2 ^ 2 + d ≡ d = omega arith in
    let changed : bit_xor high d ≡ high / 4 * 4 + bit_xor (high % 4) d =
    sym (ap₂ bit_xor parts alone) ∙ digit ∙ omega (arith, xor_zero_r (high / 4)) in
    let there : d * p + 0 ≡ d * p = omega arith in
    let is : bit_xor w (d * p) ≡ bit_xor high d * p + w % p = sym (ap₂ bit_xor whole there) ∙ block ∙ omega (arith, xor_zero_r (w % p)) in
    let product : bit_xor high d * p ≡ (high / 4 * 4 + bit_xor (high % 4) d) * p = ap (λ x. x * p) changed in
    omega (arith, is, product, whole, ap (λ x. x * p) parts)

xor_code : (w t d : ℕ) → d < 4 → bit_xor w (d * 4 ^ t) + code_at w t * 4 ^ t ≡ w + bit_xor (code_at w t) d * 4 ^ t
xor_code w t d h = rw (four_pow t) (xor_high w (2 * t) d h)

-- what a number differs in from another makes the other of it
pub changed_twice : (a b : ℕ) → bit_xor a (bit_xor a b) ≡ b
changed_twice a b = sym (xor_assoc a a b) ∙ ap (λ x. bit_xor x b) (xor_self a) ∙ xor_zero_l b

-- a changed code is a code
pub changed_small : (w t d : ℕ) → d < 4 → bit_xor (code_at w t) d < 4
changed_small w t d h = xor_lt 2 (code_at w t) d (omega arith) h

-- a changed code leaves the kind
pub kind_of-changed : (w t d : ℕ) → d < 4 → kind_of (with_change w t d) ≡ kind_of w
kind_of-changed w t d h = kind_of-recoded w t (bit_xor (code_at w t) d) (changed_small w t d h)

-- the word with a code changed in a cell's bits
pub changed_code : (w t d : ℕ) → w < 2 ^ 51 → t < 25 → d < 4 → bit_xor w (code_in d t) ≡ with_change w t d
changed_code w t d small l h =
    let sum = recoded_sum w t (bit_xor (code_at w t) d) small l in
    omega (arith, sum.0, sum.1, xor_code w t d h)

-- ---- the four pairs

step : (k : Kind) (s : Symmetry) (v j c : ℕ) → kind_of v ≡ k → ComesBack k s → j < 25 → c < 4 →
    image_of s (recoded v j c) ≡ recoded (image_of s v) (get_or (sources k s) j 0) c
step k s v j c e back l h =
    subst (λ q. ComesBack q s → image_of s (recoded v j c) ≡ recoded (image_of s v) (get_or (sources q s) j 0) c) e
    (λ b. image-recoded s v j c b l h) back

-- the cell to which a symmetry moves a cell has its code
pub code_followed : (k : Kind) (s : Symmetry) (v j : ℕ) → kind_of v ≡ k → ComesBack k s → j < 25 →
    code_at (image_of s v) (get_or (sources k s) j 0) ≡ code_at v j
code_followed k s v j e back l =
    code_at-image s v (get_or (sources k s) j 0) (cell-lt k s j l)
    ∙ ap (λ q. code_at v (get_or (sources q s) (get_or (sources k s) j 0) 0)) e
    ∙ ap (code_at v) (twice k s j back l)

-- pairs in which the code of the cell was changed are those of the word with the code changed
pub AreImages-recoded : (k : Kind) (w i c : ℕ) (pair flipped turned both : List ℕ) → kind_of w ≡ k → i < 25 → c < 4 →
    pair ≡ recoded w i c ∷ recoded (image_of symmetry.FallingDiagonal w) (get_or (sources k symmetry.FallingDiagonal) i 0) c ∷ [] →
    flipped ≡ recoded (image_of symmetry.LeftRight w) (get_or (sources k symmetry.LeftRight) i 0) c
    ∷ recoded (image_of symmetry.LeftRight (image_of symmetry.FallingDiagonal w)) (get_or (sources k symmetry.LeftRight) (get_or (sources k symmetry.FallingDiagonal) i 0) 0) c ∷ [] →
    turned ≡ recoded (image_of symmetry.TopBottom w) (get_or (sources k symmetry.TopBottom) i 0) c
    ∷ recoded (image_of symmetry.TopBottom (image_of symmetry.FallingDiagonal w)) (get_or (sources k symmetry.TopBottom) (get_or (sources k symmetry.FallingDiagonal) i 0) 0) c ∷ [] →
    both ≡ recoded (image_of symmetry.TopBottom (image_of symmetry.LeftRight w)) (get_or (sources k symmetry.TopBottom) (get_or (sources k symmetry.LeftRight) i 0) 0) c
    ∷ recoded (image_of symmetry.TopBottom (image_of symmetry.LeftRight (image_of symmetry.FallingDiagonal w)))
    (get_or (sources k symmetry.TopBottom) (get_or (sources k symmetry.LeftRight) (get_or (sources k symmetry.FallingDiagonal) i 0) 0) 0) c ∷ [] →
    AreImages (recoded w i c) pair flipped turned both
AreImages-recoded k w i c pair flipped turned both e l h is_pair is_flipped is_turned is_both =
    let d = image_of symmetry.FallingDiagonal w in
    let f = get_or (sources k symmetry.FallingDiagonal) i 0 in
    let m = get_or (sources k symmetry.LeftRight) i 0 in
    let n = get_or (sources k symmetry.LeftRight) f 0 in
    let f_small = cell-lt k symmetry.FallingDiagonal i l in
    let m_small = cell-lt k symmetry.LeftRight i l in
    let n_small = cell-lt k symmetry.LeftRight f f_small in
    let of_d = kind_of-image symmetry.FallingDiagonal w ∙ e in
    let diagonal = step k symmetry.FallingDiagonal w i c e (falling_back k) l h in
    let left = step k symmetry.LeftRight w i c e (left_right_back k) l h in
    let left_d = ap (image_of symmetry.LeftRight) diagonal ∙ step k symmetry.LeftRight d f c of_d (left_right_back k) f_small h in
    let top = step k symmetry.TopBottom w i c e (top_bottom_back k) l h in
    let top_d = ap (image_of symmetry.TopBottom) diagonal ∙ step k symmetry.TopBottom d f c of_d (top_bottom_back k) f_small h in
    let both_w =
    ap (image_of symmetry.TopBottom) left
    ∙ step k symmetry.TopBottom (image_of symmetry.LeftRight w) m c (kind_of-image symmetry.LeftRight w ∙ e) (top_bottom_back k) m_small h in
    let both_d =
    ap (image_of symmetry.TopBottom) left_d
    ∙ step k symmetry.TopBottom (image_of symmetry.LeftRight d) n c (kind_of-image symmetry.LeftRight d ∙ of_d) (top_bottom_back k) n_small h in
    record {
      small = recoded_small w i c h;
      pair_is = is_pair ∙ ap (λ x. recoded w i c ∷ x ∷ []) (sym diagonal);
      flipped_is = is_flipped ∙ ap₂ (λ x y. x ∷ y ∷ []) (sym left) (sym left_d);
      turned_is = is_turned ∙ ap₂ (λ x y. x ∷ y ∷ []) (sym top) (sym top_d);
      both_is = is_both ∙ ap₂ (λ x y. x ∷ y ∷ []) (sym both_w) (sym both_d);
    }

-- two words, each with the code of a cell changed that has this code
pub changed_pair : (a b i j c d : ℕ) → a < 2 ^ 51 → b < 2 ^ 51 → i < 25 → j < 25 → d < 4 → code_at a i ≡ c → code_at b j ≡ c → (words : List ℕ) →
    words ≡ bit_xor a (code_in d i) ∷ bit_xor b (code_in d j) ∷ [] →
    words ≡ recoded a i (bit_xor c d) ∷ recoded b j (bit_xor c d) ∷ []
changed_pair a b i j c d small_a small_b within_i within_j h of_a of_b words is =
    is ∙ ap₂ (λ x y. x ∷ y ∷ [])
    (changed_code a i d small_a within_i h ∙ ap (λ x. recoded a i (bit_xor x d)) of_a)
    (changed_code b j d small_b within_j h ∙ ap (λ x. recoded b j (bit_xor x d)) of_b)
