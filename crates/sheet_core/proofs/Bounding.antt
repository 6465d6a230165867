-- The bounds of the numbers that a lower bound is made of.
use Rattle.std.proofs.Common.{◌≡◌, ℕ, suc, ◌-◌, ◌*◌, ◌/◌, ◌^◌, ◌<◌, ◌≤◌, true, arith, ap}
use Rattle.std.specs.Prelude.{nat_le}
use Rattle.std.proofs.lemmas.Nat.{mul-le}
use Rattle.std.proofs.lemmas.Bool.Decides.{nat_tests}
use Rattle.sheet_core.specs.Bounds.{is_enough, bound_from, stepped}

pub spread_small : (bound : ℕ) → bound < 2 ^ 20 → bound * (2 ^ 20 - bound) ≤ 2 ^ 40
spread_small bound small = let h = mul-le bound (2 ^ 20 - bound) (2 ^ 20) (2 ^ 20) (omega (arith, small)) (omega arith) in omega (arith, h)

pub needed_small : (times spread : ℕ) → times < 2 ^ 64 → spread ≤ 2 ^ 40 → times * spread ≤ 2 ^ 104
needed_small times spread few small = let h = mul-le times spread (2 ^ 64) (2 ^ 40) (omega (arith, few)) small in omega (arith, h)

pub square_small : (excess : ℕ) → excess < 2 ^ 57 → excess * excess ≤ 2 ^ 114
square_small excess small = let h = mul-le excess excess (2 ^ 57) (2 ^ 57) (omega (arith, small)) (omega (arith, small)) in omega (arith, h)

less_true : (a b : ℕ) → a ≤ b → nat_le a b ≡ true
less_true a b h = grind (arith, nat_tests)

pub great_enough : (times bound excess : ℕ) → times < 2 ^ 64 → bound < 2 ^ 20 → 2 ^ 57 ≤ excess → is_enough times bound excess ≡ true
great_enough times bound excess few small great =
    let one = needed_small times (bound * (2 ^ 20 - bound)) few (spread_small bound small) in
    let two = mul-le (2 ^ 57) (2 ^ 57) excess excess great great in
    less_true (2401 * (times * (bound * (2 ^ 20 - bound)))) (625 * (excess * excess)) (omega (arith, one, two))

-- one step more
pub bound_steps : (left next times plays step bound : ℕ) → left ≡ suc next → bound_from left times plays step bound ≡ bound_from next times plays (step / 2) (stepped times plays step bound)
unfolding bound_from
bound_steps left next times plays step bound is = ap (λ (n : ℕ). bound_from n times plays step bound) is

pub bound_ends : (left times plays step bound : ℕ) → left ≡ 0 → bound_from left times plays step bound ≡ bound
unfolding bound_from
bound_ends left times plays step bound is = ap (λ (n : ℕ). bound_from n times plays step bound) is
