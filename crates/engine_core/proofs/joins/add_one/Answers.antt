use Rattle.std.proofs.Common.{subst, arith}
use Rattle.engine_core.specs.Inner.Joins.{IsAdded, IsAddFault}
use Rattle.engine_core.proofs.Joined.{rest_is, add_fault}
use Rattle.engine_core.proofs.Batched.{batch_number, more_batch}
use Rattle.engine_core.proofs.joins.add_one.Goals as goal

pub overflow_add-n : goal.overflow_add-n
overflow_add-n c = omega (arith, batch_number c.args.input.now c.args.before.now c.requires.before, c.requires.more, c.requires.few)

pub returns-in-Ok-clause-batch : goal.returns-in-Ok-clause-batch
returns-in-Ok-clause-batch c =
    let input = c.args.input.now in
    let before = c.args.before.now in
    let added = subst (λ bytes. IsAdded before.sum bytes c.in-Ok.length c.in-Ok.sum) (rest_is input before.length) c.in-Ok.ensures.added in
    more_batch input before c.in-Ok.length added.0 c.in-Ok.sum c.requires.before added.1 added.2 added.3

pub returns-in-Err-clause-fault : goal.returns-in-Err-clause-fault
returns-in-Err-clause-fault c =
    let input = c.args.input.now in
    let before = c.args.before.now in
    add_fault input before.length before.number before.sum c.in-Err.fault c.requires.before.joined c.requires.more c.requires.few
    (subst (λ bytes. IsAddFault before.sum bytes c.in-Err.fault) (rest_is input before.length) c.in-Err.ensures.fault)
