use Rattle.std.proofs.Common.{arith}
use Rattle.engine_core.proofs.Batched.{both_number, follows}
use Rattle.engine_core.proofs.halves.+join_front.Goals as goal

pub join_two-requires-clause-number : goal.join_two-requires-clause-number
join_two-requires-clause-number t c =
    omega (
      arith,
      both_number c.args.bytes.now c.in_ok-first.first c.in_ok-next.next
          (follows c.args.bytes.now c.in_ok-first.first c.in_ok-next.next c.in_ok-first.ensures.batch c.in_ok-next.ensures.batch),
    )

pub returns-clause-batch : goal.returns-clause-batch
returns-clause-batch t c =
    c.join_two.ensures.both c.args.bytes.now
    (follows c.args.bytes.now c.in_ok-first.first c.in_ok-next.next c.in_ok-first.ensures.batch c.in_ok-next.ensures.batch)
