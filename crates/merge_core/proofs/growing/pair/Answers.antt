use Rattle.std.proofs.Common.{subst, sym}
use Rattle.merge_core.specs.Entries.{WasNext}
use Rattle.merge_core.proofs.Unmerged.{fault_of_left, fault_of_right}
use Rattle.merge_core.proofs.Came.{came_before}
use Rattle.merge_core.specs.Inner.Trees.{Yields}
use Rattle.merge_core.proofs.growing.pair.Goals as goal

pub returns-in-Err-clause-next : goal.returns-in-Err-clause-next
returns-in-Err-clause-next g c = λ mine other y z. fault_of_left c.args.left.totals.games mine other c.in-Err.fault (c.in-Err.ensures.next mine y)

pub returns-in-Err-next_of-clause-next : goal.returns-in-Err-next_of-clause-next
returns-in-Err-next_of-clause-next g c = λ mine other y z. fault_of_right c.args.left.totals.games mine other c.in-Err-next_of.fault (c.in-Err-next_of.ensures.next other z)

pub returns-clause-came : goal.returns-clause-came
returns-clause-came g c = λ entries y.
    let Came = Yields g.E.Entries.came in
    let one = subst (λ x. WasNext (Came c.args.left.tree) (Came x) c.in-Ok-next_of.next) (sym c.in-Ok-new.ensures.ok) c.in-Ok-next_of.ensures.came in
    let two = subst (λ x. WasNext (Came c.args.right.tree) (Came x) c.in-Ok-next_of-2.next) (sym c.in-Ok-new-2.ensures.ok) c.in-Ok-next_of-2.ensures.came in (
      y.0,
      y.1,
      came_before (Came c.args.left.tree) (Came c.in-Ok-new.left.value) c.in-Ok-next_of.next one y.0 y.2,
      came_before (Came c.args.right.tree) (Came c.in-Ok-new-2.right.value) c.in-Ok-next_of-2.next two y.1 y.3,
      y.4,
    )
