use Rattle.std.proofs.Common.{◌≡◌, ℕ, ◌+◌, ◌-◌, ◌/◌, ◌^◌, ◌<◌, ◌≤◌, ap, ◌∙◌, subst, sym, arith}
use Rattle.std.proofs.lemmas.Nat.{shr-shr, shr_below}
use Rattle.std.proofs.Math.Pow.{pow_mono}
use Rattle.probe_core.specs.Order.{start_of}
use Rattle.probe_core.proofs.orders.start.Goals as goal

-- two shifts are one
one_shift : (mixed k r : ℕ) → k ≤ 22 → r ≡ k → mixed / 2 / 2 ^ (63 - r) ≡ start_of k mixed
one_shift mixed k r small e =
    shr-shr mixed 1 (63 - r) ∙ ap (λ n. mixed / 2 ^ n) (omega (arith, small, e))

-- the top bits are few
few_bits : (mixed k : ℕ) → k ≤ 22 → mixed < 2 ^ 64 → start_of k mixed < 2 ^ 22
few_bits mixed k small h =
    let P : ℕ → Type 0 = λ n. mixed < 2 ^ n
    in let whole : 64 ≡ k + (64 - k) = omega (arith, small)
    in let parted : mixed < 2 ^ (k + (64 - k)) = subst P whole h
    in omega (arith, shr_below mixed k (64 - k) parted, pow_mono small)

pub returns-clause-value : goal.returns-clause-value
returns-clause-value c =
    one_shift c.args.mixed c.args.capacity c.exponent.result c.exponent.ensures.small c.exponent.ensures.value

pub returns-clause-small : goal.returns-clause-small
returns-clause-small c =
    let P : ℕ → Type 0 = λ n. n < 2 ^ 22
    in subst P
    (sym (one_shift c.args.mixed c.args.capacity c.exponent.result c.exponent.ensures.small c.exponent.ensures.value))
    (few_bits c.args.mixed c.args.capacity c.exponent.ensures.small c.ranges.mixed.fits)
