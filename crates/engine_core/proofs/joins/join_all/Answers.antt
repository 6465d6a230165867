use Rattle.engine_core.proofs.Joined.{first_joined}
use Rattle.engine_core.proofs.joins.join_all.Goals as goal

pub add_up_to-requires-clause-before : goal.add_up_to-requires-clause-before
add_up_to-requires-clause-before c =
    let found = c.in_ok-sum.ensures.found in
    record { within = found.0; joined = first_joined c.args.input.now c.in_ok-sum.length c.in_ok-sum.sum found.1 }
