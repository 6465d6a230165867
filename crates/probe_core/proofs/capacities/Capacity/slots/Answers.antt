use Rattle.std.proofs.Common.{◌≤◌, arith}
use Rattle.std.proofs.Math.Pow.{pow_mono}
use Rattle.std.proofs.lemmas.Nat.{one_shl}
use Rattle.probe_core.proofs.capacities.Capacity.slots.Goals as goal

pub returns-clause-few : goal.returns-clause-few
returns-clause-few c =
    let small : c.self.inside.exponent ≤ 22 = c.self.invariant
    in omega (arith, one_shl c.self.inside.exponent 64 (omega arith), pow_mono small)
