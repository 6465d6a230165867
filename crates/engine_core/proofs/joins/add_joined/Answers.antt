use Rattle.std.proofs.Common.{arith}
use Rattle.engine_core.proofs.Batched.{both_number, follows}
use Rattle.engine_core.proofs.joins.add_joined.Goals as goal

pub join_two-requires-clause-number : goal.join_two-requires-clause-number
join_two-requires-clause-number c =
    omega (
      arith,
      both_number c.args.input.now c.args.before.now c.in_ok-next.next
          (follows c.args.input.now c.args.before.now c.in_ok-next.next c.requires.before c.in_ok-next.ensures.batch),
    )

pub returns-clause-batch : goal.returns-clause-batch
returns-clause-batch c =
    c.join_two.ensures.both c.args.input.now
    (follows c.args.input.now c.args.before.now c.in_ok-next.next c.requires.before c.in_ok-next.ensures.batch)
