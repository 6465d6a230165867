use Rattle.std.proofs.Common.{◌≡◌, ◌≤◌, ◌<◌, ◌+◌, ◌*◌, ◌-◌, ◌^◌, ◌∙◌, ℕ, List, [], ◌∷◌, ◌++◌, length, take, get_or, arith, ap, refl, pow-suc, add-one}
use Rattle.std.proofs.Math.Nat.{pow-le-pow_right}
use Rattle.std.proofs.lemmas.Grind.{common_steps}
use Rattle.std.proofs.lemmas.List.{take_more}
use Rattle.shape_dict.specs.Inner.Parsing.{read_on}
use Rattle.shape_dict.proofs.Decimals.{digits_push}
use Rattle.shape_dict.proofs.quick.quick_digits.Goals as goal

-- one digit more
read_on_push : (n : ℕ) (xs : List ℕ) (b : ℕ) → read_on n (xs ++ b ∷ []) ≡ 10 * read_on n xs + (b - 48)
read_on_push n [] b = refl
read_on_push n (x ∷ xs) b = read_on_push (10 * n + (x - 48)) xs b

bound : (count value : ℕ) → count < 18 → value < 10 ^ count → value < 10 ^ 17
bound count value few small = let more = pow-le-pow_right {n = 10} (omega arith) {i = count} {j = 17} (omega arith) in omega arith

pub overflow_mul-value : goal.overflow_mul-value
overflow_mul-value c =
    let b = bound c.loop-count.count c.loop-count.value (omega arith) c.loop-count.invariant.small in omega arith

pub overflow_add-value : goal.overflow_add-value
overflow_add-value c =
    let b = bound c.loop-count.count c.loop-count.value (omega arith) c.loop-count.invariant.small in
    let high : get_or c.args.bytes.now c.loop-count.count 0 ≤ 57 = grind (arith, common_steps) in
    omega (arith, c.from.ensures)

pub loop-count-preserved : goal.loop-count-preserved
loop-count-preserved c =
    let bytes = c.args.bytes.now in
    let at = c.loop-count.count in
    let inside : at < length bytes = omega arith in
    let low : 48 ≤ get_or bytes at 0 = grind (arith, common_steps) in
    let high : get_or bytes at 0 ≤ 57 = grind (arith, common_steps) in
    let digit : c.from.result ≡ get_or bytes at 0 - 48 = c.from.ensures in
    let power : 10 ^ (at + 1) ≡ 10 * 10 ^ at = ap (λ k. 10 ^ k) (add-one at) ∙ (pow-suc 10 at ∙ omega arith) in
    record {
      fits = omega arith;
      few = omega arith;
      digits = rw (take_more bytes at 0 inside) (digits_push _ _ c.loop-count.invariant.digits low high);
      value = rw (take_more bytes at 0 inside) (omega (arith, read_on_push 0 (take at bytes) (get_or bytes at 0), c.loop-count.invariant.value, digit));
      small = omega (arith, c.loop-count.invariant.small, power, digit, high);
    }
