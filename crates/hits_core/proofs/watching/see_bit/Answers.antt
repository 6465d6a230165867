use Rattle.std.proofs.Common.{◌≡◌, ◌*◌, ◌%◌, ◌^◌, inl, arith}
use Rattle.std.proofs.lemmas.Nat.{pow_below}
use Rattle.hits_core.proofs.watching.see_bit.Goals as goal

pub returns-clause-bit : goal.returns-clause-bit
returns-clause-bit c =
    let one : 1 * 2 ^ c.args.point.column % 2 ^ 64 ≡ 2 ^ c.args.point.column = omega (arith, pow_below c.args.point.column 64 c.requires.small) in
    inl one
