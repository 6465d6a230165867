-- The sum over cells, one cell more at a time.
use Rattle.std.proofs.Common.{◌≡◌, ℕ, suc, ◌+◌, ◌*◌, ◌%◌, ◌^◌, ◌<◌, ◌≤◌, List, [], ◌∷◌, ◌++◌, length, get_or, take, sym, ap, ap₂, ◌∙◌, arith, mod-eq_of_lt, pow-suc, length-take-le}
use Rattle.std.proofs.Math.Nat.{pow-le-pow_right}
use Rattle.std.proofs.lemmas.Nat.{mul-le}
use Rattle.std.proofs.lemmas.List.{take_more}
use Rattle.std.proofs.lemmas.List.Elements.{All-take, All-get_or}
use Rattle.shape_core.specs.Word.{sum_of}
use Rattle.shape_core.proofs.Digits.{sum_of-lt}
use Rattle.shape_core.proofs.Codes.{AreCodes}
use Rattle.shape_core.proofs.Moves.{four_pow}

sum_of-push : (cs : List ℕ) (c : ℕ) → sum_of (cs ++ c ∷ []) ≡ sum_of cs + c * 4 ^ length cs
sum_of-push [] c = omega arith
sum_of-push (x ∷ cs) c =
    let power : c * 4 ^ suc (length cs) ≡ 4 * (c * 4 ^ length cs) = ap (λ p. c * p) (pow-suc 4 (length cs)) ∙ omega arith in
    omega (arith, sum_of-push cs c)

powers_rise : (i j : ℕ) → i ≤ j → 4 ^ i ≤ 4 ^ j
powers_rise i j h = pow-le-pow_right {n = 4} (omega arith) {i = i} {j = j} h

-- a code `i` cells up, as the program shifts it
weighed : (c i : ℕ) → c < 4 → i < 25 → (c * 2 ^ (2 * i) % 2 ^ 64 ≡ c * 4 ^ i) × (c * 4 ^ i < 2 ^ 50)
weighed c i p q =
    let low = powers_rise i 24 (omega arith) in
    let small : c * 4 ^ i ≤ 3 * 4 ^ 24 = mul-le c (4 ^ i) 3 (4 ^ 24) (omega arith) low in
    (ap (λ n. (c * n) % 2 ^ 64) (sym (four_pow i)) ∙ mod-eq_of_lt (omega arith), omega arith)

pub sum_of-more : (codes : List ℕ) (i c : ℕ) → AreCodes codes → i < 25 → c ≡ get_or codes i 0 → sum_of (take (i + 1) codes) ≡ sum_of (take i codes) + c * 2 ^ (2 * i) % 2 ^ 64
sum_of-more codes i c are h is =
    let within : i < length codes = omega (arith, are.count) in
    let small : c < 4 = rw is (All-get_or (λ x. x < 4) codes i 0 within are.small) in
    ap sum_of (take_more codes i 0 within)
    ∙ sum_of-push (take i codes) (get_or codes i 0)
    ∙ ap₂ (λ x n. sum_of (take i codes) + x * 4 ^ n) (sym is) (length-take-le i codes (omega arith))
    ∙ ap (λ x. sum_of (take i codes) + x) (sym (weighed c i small h).0)

pub sum_of_fits : (codes : List ℕ) (i : ℕ) → AreCodes codes → i ≤ 25 → sum_of (take i codes) < 2 ^ 50
sum_of_fits codes i are h =
    omega (arith, sum_of-lt (take i codes) (All-take (λ x. x < 4) i codes are.small), powers_rise (length (take i codes)) 25 (omega (arith, length-take-le i codes (omega (arith, are.count)))))
