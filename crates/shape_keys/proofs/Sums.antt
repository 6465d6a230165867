-- The sum over the cells from one on.
use Rattle.std.proofs.Common.{◌≡◌, ℕ, zero, suc, ◌+◌, ◌-◌, ◌*◌, refl, ◌∙◌, subst, ◌^◌, ◌<◌, ◌≤◌, List, [], ◌∷◌, length, get_or, drop, ap, arith}
use Rattle.std.proofs.Math.Nat.{pow-succ', one-le-pow}
use Rattle.std.proofs.lemmas.List.{drop_more, length-drop, drop_all}
use Rattle.shape_core.specs.Word.{sum_of}
use Rattle.shape_keys.specs.Codes.{AreCodes}

small_by : (n : ℕ) (codes : List ℕ) → length codes ≤ n → AreCodes codes → sum_of codes < 4 ^ n
small_by n [] short all = let h = one-le-pow n 4 (omega arith) in omega (arith, h)
small_by zero (c ∷ cs) short all = absurd (omega arith)
small_by (suc n) (c ∷ cs) short all =
    let h = small_by n cs (omega arith) (λ k d low. all (suc k) d (omega arith)) in
    let p = pow-succ' 4 n in
    let small = all 0 0 (omega arith) in
    omega (arith, h, p, small)

-- the codes of 25 cells or fewer
pub sum_small : (codes : List ℕ) → length codes ≤ 25 → AreCodes codes → sum_of codes < 2 ^ 50
sum_small codes short all = small_by 25 codes short all

-- the sum from a cell on is its code and four times the sum after it
pub sum_before : (codes : List ℕ) (cell : ℕ) → cell < length codes → sum_of (drop cell codes) ≡ get_or codes cell 0 + 4 * sum_of (drop (cell + 1) codes)
sum_before codes cell within = ap sum_of (drop_more codes cell 0 within)

all_from : (c : ℕ) (cs : List ℕ) → c < 4 → AreCodes cs → AreCodes (c ∷ cs)
all_from c cs small all zero d low = small
all_from c cs small all (suc k) d low = all k d (omega arith)

pub codes_before : (codes : List ℕ) (cell : ℕ) → cell < length codes → get_or codes cell 0 < 4 → AreCodes (drop (cell + 1) codes) → AreCodes (drop cell codes)
codes_before codes cell within small after = rw (drop_more codes cell 0 within) (all_from _ _ small after)

-- from the last cell on there is none
pub none_left : (codes : List ℕ) → length codes ≡ 25 → (0 ≡ sum_of (drop 25 codes)) × AreCodes (drop 25 codes)
none_left codes count =
    let none : drop 25 codes ≡ [] = drop_all 25 codes (omega (arith, count)) in
    rw none (refl, λ k d low. absurd (omega (arith, low)))

pub small_from : (codes : List ℕ) (cell sum : ℕ) → length codes ≡ 25 → sum ≡ sum_of (drop cell codes) → AreCodes (drop cell codes) → sum < 2 ^ 50
small_from codes cell sum count is all =
    let few = length-drop cell codes in
    let small = sum_small (drop cell codes) (omega (arith, few, count)) all in
    omega (arith, is, small)

-- one place more, which is a cell less
pub one_more : (codes : List ℕ) (place sum : ℕ) → length codes ≡ 25 → place < 25 → sum ≡ sum_of (drop (25 - place) codes) → AreCodes (drop (25 - place) codes) → get_or codes (24 - place) 0 ≤ 3 → (4 * sum + get_or codes (24 - place) 0 ≡ sum_of (drop (25 - (place + 1)) codes)) × AreCodes (drop (25 - (place + 1)) codes)
one_more codes place sum count within is all small =
    let after : 25 - place ≡ (24 - place) + 1 = omega (arith, within) in
    let here : 25 - (place + 1) ≡ 24 - place = omega arith in
    let low : 24 - place < length codes = omega (arith, count) in
    let sum_here = sum_before codes (24 - place) low in
    let sum_after : sum ≡ sum_of (drop ((24 - place) + 1) codes) = is ∙ ap (λ n. sum_of (drop n codes)) after in
    let codes_after : AreCodes (drop ((24 - place) + 1) codes) = subst (λ n. AreCodes (drop n codes)) after all in
    rw here (omega (arith, sum_here, sum_after), codes_before codes (24 - place) low (omega (arith, small)) codes_after)
