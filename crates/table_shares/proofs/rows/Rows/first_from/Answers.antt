use Rattle.table_shares.proofs.Found.{least_from, none_from}
use Rattle.table_shares.proofs.rows.Rows.first_from.Goals as goal

pub returns-in_err-place-clause-least : goal.returns-in_err-place-clause-least
returns-in_err-place-clause-least c = rw (c.from_residual.ensures, ← c.self.view_is)
    (none_from c.self.invariant.0 c.args.from c.range.result (c.range.ensures.in_range tt) c.in_err-place.ensures.steps.0)

pub returns-clause-least : goal.returns-clause-least
returns-clause-least c = rw (← c.self.view_is)
    (least_from c.self.invariant.0 c.args.from c.range.result c.next.new.self (c.in_ok-place.field-0-0.now, c.in_ok-place.place.now)
    (c.range.ensures.in_range tt) c.in_ok-place.ensures.steps c.index.result.now c.index.ensures)
