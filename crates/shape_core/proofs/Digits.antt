-- Numbers as lists of digits in base 4, the lowest first.
use Rattle.std.proofs.Common.{◌≡◌, ℕ, zero, suc, ◌+◌, ◌*◌, ◌/◌, ◌%◌, ◌^◌, ◌<◌, List, [], ◌∷◌, map, length, get_or, set, sym, refl, ap, ◌∙◌, arith, pow-suc, div-one, All}
use Rattle.std.proofs.Math.Nat.{div-div-eq-div-mul}
use Rattle.std.proofs.lemmas.List.Elements.{All-cons, All-head, All-tail, All-nil}
use Rattle.shape_core.specs.Word.{sum_of, code_at, count_from}

-- the n lowest digits
unfoldable pub digits : ℕ → ℕ → List ℕ
digits zero w = []
digits (suc n) w = w % 4 ∷ digits n (w / 4)

-- the digit after one more
code_at-suc : (w i : ℕ) → code_at w (suc i) ≡ code_at (w / 4) i
code_at-suc w i =
    ap (λ p. (w / p) % 4) (pow-suc 4 i ∙ (omega arith)) ∙ ap (λ q. q % 4) (sym (div-div-eq-div-mul w 4 (4 ^ i)))

code_at-zero : (w : ℕ) → code_at w 0 ≡ w % 4
code_at-zero w = ap (λ q. q % 4) (div-one w)

pub code_at-lt : (w i : ℕ) → code_at w i < 4
code_at-lt w i = omega arith

pub length-digits : (n w : ℕ) → length (digits n w) ≡ n
unfolding digits
length-digits zero w = refl
length-digits (suc n) w = ap suc (length-digits n (w / 4))

pub digits-lt : (n w : ℕ) → All (λ c. c < 4) (digits n w)
unfolding digits
digits-lt zero w = All-nil (λ c. c < 4)
digits-lt (suc n) w = All-cons (λ c. c < 4) (w % 4) (digits n (w / 4)) (omega arith) (digits-lt n (w / 4))

pub get_or-digits : (n w i : ℕ) → i < n → get_or (digits n w) i 0 ≡ code_at w i
unfolding digits
get_or-digits zero w i h = absurd (omega arith)
get_or-digits (suc n) w zero h = sym (code_at-zero w)
get_or-digits (suc n) w (suc i) h = get_or-digits n (w / 4) i (omega arith) ∙ sym (code_at-suc w i)

-- the codes from a first cell on are the digits of what is left above it
pub codes_from : (n a w : ℕ) → map (code_at w) (count_from a n) ≡ digits n (w / 4 ^ a)
unfolding digits
codes_from zero a w = refl
codes_from (suc n) a w =
    ap (λ cs. code_at w a ∷ cs) (codes_from n (suc a) w ∙ ap (digits n) (ap (λ p. w / p) (pow-suc 4 a) ∙ sym (div-div-eq-div-mul w (4 ^ a) 4)))

-- a number is the sum of its digits and of what is above them
pub sum_of-digits : (n w : ℕ) → sum_of (digits n w) + 4 ^ n * (w / 4 ^ n) ≡ w
unfolding digits
sum_of-digits zero w = omega (arith, div-one w)
sum_of-digits (suc n) w =
    let up : w / 4 ^ suc n ≡ w / 4 / 4 ^ n = ap (λ p. w / p) (pow-suc 4 n ∙ (omega arith)) ∙ sym (div-div-eq-div-mul w 4 (4 ^ n)) in
    let more = sum_of-digits n (w / 4) in
    let power : 4 ^ suc n * (w / 4 / 4 ^ n) ≡ 4 * (4 ^ n * (w / 4 / 4 ^ n)) = ap (λ p. p * (w / 4 / 4 ^ n)) (pow-suc 4 n) ∙ omega arith in
    rw up (omega arith)

pub sum_of-lt : (xs : List ℕ) → All (λ c. c < 4) xs → sum_of xs < 4 ^ length xs
sum_of-lt [] h = omega arith
sum_of-lt (x ∷ xs) h =
    omega (arith, pow-suc 4 (length xs), All-head (λ c. c < 4) x xs h, sum_of-lt xs (All-tail (λ c. c < 4) x xs h))

-- the digits of a sum are its codes
pub digits-sum_of : (xs : List ℕ) (m : ℕ) → All (λ c. c < 4) xs → digits (length xs) (sum_of xs + 4 ^ length xs * m) ≡ xs
unfolding digits
digits-sum_of [] m h = refl
digits-sum_of (x ∷ xs) m h =
    let small : x < 4 = All-head (λ c. c < 4) x xs h in
    let power : 4 ^ suc (length xs) * m ≡ 4 * (4 ^ length xs * m) = ap (λ p. p * m) (pow-suc 4 (length xs)) ∙ omega arith in
    let low : (x + 4 * sum_of xs + 4 ^ suc (length xs) * m) % 4 ≡ x = omega arith in
    let high : (x + 4 * sum_of xs + 4 ^ suc (length xs) * m) / 4 ≡ sum_of xs + 4 ^ length xs * m = omega arith in
    ap (λ d. d ∷ digits (length xs) ((x + 4 * sum_of xs + 4 ^ suc (length xs) * m) / 4)) low
    ∙ ap (λ ds. x ∷ ds) (ap (digits (length xs)) high ∙ digits-sum_of xs m (All-tail (λ c. c < 4) x xs h))

-- a changed code changes the sum by what it weighs
pub sum_of-set : (xs : List ℕ) (i c : ℕ) → i < length xs → sum_of (set xs i c) + get_or xs i 0 * 4 ^ i ≡ sum_of xs + c * 4 ^ i
sum_of-set [] i c h = absurd (omega arith)
sum_of-set (x ∷ xs) zero c h = omega arith
sum_of-set (x ∷ xs) (suc i) c h =
    let more = sum_of-set xs i c (omega arith) in
    let here : get_or xs i 0 * 4 ^ suc i ≡ 4 * (get_or xs i 0 * 4 ^ i) = ap (λ p. get_or xs i 0 * p) (pow-suc 4 i) ∙ omega arith in
    let there : c * 4 ^ suc i ≡ 4 * (c * 4 ^ i) = ap (λ p. c * p) (pow-suc 4 i) ∙ omega arith in
    omega arith
