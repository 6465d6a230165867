use Rattle.std.proofs.Common.{◌≡◌, ℕ, zero, suc, ◌+◌, ◌-◌, ◌*◌, ◌/◌, ◌%◌, ◌^◌, ◌<◌, ◌≤◌, refl, ap, ◌∙◌, sym, subst, arith, bit_and, bit_or}
use Rattle.std.specs.Int.Bits.{or_zero_r}
use Rattle.std.proofs.lemmas.Nat.{and_mask, or_block, shr_split, mod_below, pow_pos}
use Rattle.probe_core.specs.Order.{step_of}
use Rattle.probe_core.proofs.orders.odd_step.Goals as goal

one_bit : (r : ℕ) → r < 2 → bit_or r 1 ≡ 1
one_bit zero h = refl
one_bit (suc zero) h = refl
one_bit (suc (suc r)) h = absurd (omega (arith, h))

-- the lowest bit is set
lowest_set : (x : ℕ) → bit_or x 1 ≡ x / 2 * 2 + 1
lowest_set x =
    let small : x % 2 < 2 = mod_below x 2 (omega arith)
    in let parts : x / 2 * 2 + x % 2 ≡ x = shr_split x 1
    in let parted : bit_or (x / 2 * 2 + x % 2) 1 ≡ bit_or (x / 2) 0 * 2 + bit_or (x % 2) 1 = or_block 1 (x / 2) 0 (x % 2) 1 small (omega arith)
    in ap (λ n. bit_or n 1) (sym parts) ∙ parted
    ∙ ap (λ n. n * 2 + bit_or (x % 2) 1) (or_zero_r (x / 2))
    ∙ ap (λ n. x / 2 * 2 + n) (one_bit (x % 2) small)

step_is : (mixed k slots : ℕ) → slots ≡ 2 ^ k → bit_or (bit_and (mixed / 2 ^ 20) (slots - 1)) 1 ≡ step_of k mixed
step_is mixed k slots e =
    ap (λ n. bit_or (bit_and (mixed / 2 ^ 20) (n - 1)) 1) e
    ∙ ap (λ n. bit_or n 1) (and_mask (mixed / 2 ^ 20) k)
    ∙ lowest_set (mixed / 2 ^ 20 % 2 ^ k)

below_is_small : (x n : ℕ) → x < n → n ≤ 2 ^ 22 → x / 2 * 2 + 1 ≤ 2 ^ 22
below_is_small x n h e = omega (arith, h, e)

pub returns-clause-value : goal.returns-clause-value
returns-clause-value c = step_is c.args.mixed c.args.capacity c.slots.result c.slots.ensures.value

pub returns-clause-small : goal.returns-clause-small
returns-clause-small c =
    let k : ℕ = c.args.capacity
    in let P : ℕ → Type 0 = λ n. n ≤ 2 ^ 22
    in subst P (sym (step_is c.args.mixed k c.slots.result c.slots.ensures.value))
    (below_is_small (c.args.mixed / 2 ^ 20 % 2 ^ k) (2 ^ k)
    (mod_below (c.args.mixed / 2 ^ 20) (2 ^ k) (pow_pos k))
    (subst P c.slots.ensures.value c.slots.ensures.few))
