use Rattle.merge_core.proofs.Left.{next_left, next_came}
use Rattle.merge_core.proofs.leaves.LeafEntries.next_entry.Goals as goal

pub returns-in-Ok-clause-next : goal.returns-in-Ok-clause-next
returns-in-Ok-clause-next g c = λ entries h. next_left c.args.self.now.lines c.next_entry.new.self c.in-Ok.next entries c.in-Ok.ensures.given c.in-Ok.ensures.only h

pub returns-in-Ok-clause-came : goal.returns-in-Ok-clause-came
returns-in-Ok-clause-came g c = next_came c.args.self.now.lines c.next_entry.new.self c.in-Ok.next c.in-Ok.ensures.given c.in-Ok.ensures.stands c.next_entry.ensures.header
