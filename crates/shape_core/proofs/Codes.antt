-- Words as lists of 25 codes.
use Rattle.std.proofs.Common.{◌≡◌, ◌≢◌, get_or-set_same, get_or-set_other, ℕ, ◌+◌, ◌*◌, ◌^◌, ◌<◌, ◌≤◌, List, length, get_or, set, sym, refl, ap, ◌∙◌, arith, All, div-one, le-ltb, lt-ltb, ext_get_or, ⊎_elim, length-set}
use Rattle.std.proofs.lemmas.Bool.{cases_lt}
use Rattle.std.proofs.lemmas.List.Elements.{All-set}
use Rattle.shape_core.specs.declared.words.Kind.{Kind}
use Rattle.shape_core.specs.declared.words.Kind.TheVariants as kind
use Rattle.shape_core.specs.Word.{sum_of, word_of, kind_of, code_at, codes_of}
use Rattle.shape_core.specs.Inner.Word.{recoded}
use Rattle.shape_core.proofs.Digits.{digits, length-digits, digits-lt, get_or-digits, codes_from, sum_of-digits, sum_of-lt, digits-sum_of, sum_of-set}

-- what the codes of a word are like
pub record AreCodes (codes : List ℕ) : Type 0 where
  pub count : length codes ≡ 25
  pub small : All (λ c. c < 4) codes

pub codes_as_digits : (w : ℕ) → codes_of w ≡ digits 25 w
codes_as_digits w = codes_from 25 0 w ∙ ap (digits 25) (div-one w)

pub AreCodes-digits : (w : ℕ) → AreCodes (digits 25 w)
AreCodes-digits w = record { count = length-digits 25 w; small = digits-lt 25 w }

same_codes : (xs ys : List ℕ) → AreCodes xs → AreCodes ys → ((i : ℕ) → i < 25 → get_or xs i 0 ≡ get_or ys i 0) → xs ≡ ys
same_codes xs ys a b same = ext_get_or 0 xs ys (a.count ∙ sym b.count) (λ i h. same i (omega (arith, a.count)))

pub kind_below : (w : ℕ) → w < 2 ^ 50 → kind_of w ≡ kind.Square
kind_below w h = rw (lt-ltb w (2 ^ 50) h) refl

pub kind_above : (w : ℕ) → 2 ^ 50 ≤ w → kind_of w ≡ kind.Diamond
kind_above w h = rw (le-ltb w (2 ^ 50) h) refl

-- a word is that of its kind and its codes
pub word_is : (w : ℕ) → w < 2 ^ 51 → word_of (kind_of w) (digits 25 w) ≡ w
word_is w h =
    let whole = sum_of-digits 25 w in
    ⊎_elim
    (λ (low : w < 2 ^ 50). rw (kind_below w low) (omega arith))
    (λ (high : 2 ^ 50 ≤ w). rw (kind_above w high) (omega arith))
    (cases_lt w (2 ^ 50))

pub sum-lt : (xs : List ℕ) → AreCodes xs → sum_of xs < 2 ^ 50
sum-lt xs a = omega (arith, sum_of-lt xs a.small, ap (λ n. 4 ^ n) a.count)

pub word_of-lt : (k : Kind) (xs : List ℕ) → AreCodes xs → word_of k xs < 2 ^ 51
word_of-lt kind.Square xs a = omega (arith, sum-lt xs a)
word_of-lt kind.Diamond xs a = omega (arith, sum-lt xs a)

pub kind_of-word_of : (k : Kind) (xs : List ℕ) → AreCodes xs → kind_of (word_of k xs) ≡ k
kind_of-word_of kind.Square xs a = kind_below (0 + sum_of xs) (omega (arith, sum-lt xs a))
kind_of-word_of kind.Diamond xs a = kind_above (2 ^ 50 + sum_of xs) (omega arith)

codes_back : (xs : List ℕ) (m n : ℕ) → AreCodes xs → n ≡ sum_of xs + 4 ^ 25 * m → digits 25 n ≡ xs
codes_back xs m n a e =
    ap (digits 25) e ∙ ap (λ k. digits k (sum_of xs + 4 ^ k * m)) (sym a.count) ∙ digits-sum_of xs m a.small

pub digits-word_of : (k : Kind) (xs : List ℕ) → AreCodes xs → digits 25 (word_of k xs) ≡ xs
digits-word_of kind.Square xs a = codes_back xs 0 (0 + sum_of xs) a (omega arith)
digits-word_of kind.Diamond xs a = codes_back xs 1 (2 ^ 50 + sum_of xs) a (omega arith)

pub code_at-word_of : (k : Kind) (xs : List ℕ) (i : ℕ) → AreCodes xs → i < 25 → code_at (word_of k xs) i ≡ get_or xs i 0
code_at-word_of k xs i a h =
    sym (get_or-digits 25 (word_of k xs) i h) ∙ ap (λ cs. get_or cs i 0) (digits-word_of k xs a)

-- words of one kind with the same codes are one
pub same_words : (v w : ℕ) → v < 2 ^ 51 → w < 2 ^ 51 → kind_of v ≡ kind_of w → ((i : ℕ) → i < 25 → code_at v i ≡ code_at w i) → v ≡ w
same_words v w p q k same =
    let codes : digits 25 v ≡ digits 25 w =
    same_codes (digits 25 v) (digits 25 w) (AreCodes-digits v) (AreCodes-digits w) (λ i h. get_or-digits 25 v i h ∙ same i h ∙ sym (get_or-digits 25 w i h)) in
    sym (word_is v p) ∙ ap (λ t. word_of t (digits 25 v)) k ∙ ap (word_of (kind_of w)) codes ∙ word_is w q

AreCodes-set : (xs : List ℕ) (i c : ℕ) → AreCodes xs → c < 4 → AreCodes (set xs i c)
AreCodes-set xs i c a h =
    record { count = length-set xs i c ∙ a.count; small = All-set (λ x. x < 4) xs i c h a.small }

recoded_is : (w i c : ℕ) → recoded w i c ≡ word_of (kind_of w) (set (digits 25 w) i c)
unfolding recoded
recoded_is w i c = ap (λ cs. word_of (kind_of w) (set cs i c)) (codes_as_digits w)

pub recoded_small : (w i c : ℕ) → c < 4 → recoded w i c < 2 ^ 51
recoded_small w i c h =
    rw (recoded_is w i c) (word_of-lt (kind_of w) (set (digits 25 w) i c) (AreCodes-set (digits 25 w) i c (AreCodes-digits w) h))

pub kind_of-recoded : (w i c : ℕ) → c < 4 → kind_of (recoded w i c) ≡ kind_of w
kind_of-recoded w i c h =
    ap kind_of (recoded_is w i c)
    ∙ kind_of-word_of (kind_of w) (set (digits 25 w) i c) (AreCodes-set (digits 25 w) i c (AreCodes-digits w) h)

recoded_at : (w i c j : ℕ) → c < 4 → j < 25 → code_at (recoded w i c) j ≡ get_or (set (digits 25 w) i c) j 0
recoded_at w i c j h l =
    ap (λ v. code_at v j) (recoded_is w i c)
    ∙ code_at-word_of (kind_of w) (set (digits 25 w) i c) j (AreCodes-set (digits 25 w) i c (AreCodes-digits w) h) l

-- the cell has the new code, and each other cell its old one
pub recoded_here : (w i c : ℕ) → c < 4 → i < 25 → code_at (recoded w i c) i ≡ c
recoded_here w i c h l =
    recoded_at w i c i h l ∙ get_or-set_same (digits 25 w) i c 0 (omega (arith, length-digits 25 w))

pub recoded_other : (w i c j : ℕ) → c < 4 → j < 25 → j ≢ i → code_at (recoded w i c) j ≡ code_at w j
recoded_other w i c j h l apart =
    recoded_at w i c j h l ∙ get_or-set_other (digits 25 w) i j c 0 apart ∙ get_or-digits 25 w j l

-- a code changed in a word is a code changed in the list
pub recoded-word_of : (k : Kind) (xs : List ℕ) (i c : ℕ) → AreCodes xs → recoded (word_of k xs) i c ≡ word_of k (set xs i c)
recoded-word_of k xs i c a =
    recoded_is (word_of k xs) i c
    ∙ ap (λ t. word_of t (set (digits 25 (word_of k xs)) i c)) (kind_of-word_of k xs a)
    ∙ ap (λ cs. word_of k (set cs i c)) (digits-word_of k xs a)

-- the number with one code taken off and another put in
pub recoded_sum : (w i c : ℕ) → w < 2 ^ 51 → i < 25 → (code_at w i * 4 ^ i ≤ w) × (recoded w i c + code_at w i * 4 ^ i ≡ w + c * 4 ^ i)
recoded_sum w i c small h =
    let whole = word_is w small in
    let within : i < length (digits 25 w) = omega (arith, length-digits 25 w) in
    let code = get_or-digits 25 w i h in
    let weight : get_or (digits 25 w) i 0 * 4 ^ i ≡ code_at w i * 4 ^ i = ap (λ x. x * 4 ^ i) code in
    let changed = sum_of-set (digits 25 w) i c within in
    let zeroed = sum_of-set (digits 25 w) i 0 within in
    let is = recoded_is w i c in
    (omega arith, omega arith)
