use Rattle.std.proofs.Common.{sym, subst, ◌∙◌}
use Rattle.table_shares.proofs.Common.{IsSought}
use Rattle.table_shares.proofs.SoughtRows.{sought_other, sought_first, sought_lower, sought_stays}
use Rattle.table_shares.proofs.leasts.lesser.Goals as goal

pub returns-then-not-is_sought : goal.returns-then-not-is_sought
returns-then-not-is_sought c rows h =
    let word = c.bits.ensures.value ∙ c.word.ensures.value in
    sought_other c.args.sought rows c.args.least c.args.row
    (λ is. c.if-not-is_sought.ensures.no (subst (IsSought c.args.sought c.args.row.number) (sym word) is)) h

pub returns-in-None : goal.returns-in-None
returns-in-None c rows h =
    let is = rw (c.bits.ensures.value ∙ c.word.ensures.value) at c.if-not-is_sought.ensures.yes in
    sought_first c.args.sought rows c.args.row is (rw c.in-None.is at h)

pub returns-then-row-so_far : goal.returns-then-row-so_far
returns-then-row-so_far c rows h =
    let is = rw (c.bits.ensures.value ∙ c.word.ensures.value) at c.if-not-is_sought.ensures.yes in
    sought_lower c.args.sought rows c.in-Some.so_far c.args.row is c.if-row-so_far.true (rw c.in-Some.is at h)

pub returns-else-row-so_far : goal.returns-else-row-so_far
returns-else-row-so_far c rows h =
    sought_stays c.args.sought rows c.in-Some.so_far c.args.row (λ is. c.if-row-so_far.false) (rw c.in-Some.is at h)
