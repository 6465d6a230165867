use Rattle.std.proofs.Common.{List, Some, get_or, ap, sym, ◌∙◌}
use Rattle.table_shares.proofs.Common.{get_or_default, Row, Held, blank}
use Rattle.table_shares.proofs.Found.{found_none, found_row}
use Rattle.table_shares.proofs.shares.Share.row_at.Goals as goal

pub returns-clause-row : goal.returns-clause-row
returns-clause-row c =
    let rows = c.args.self.now.rows in
    let place = c.in_ok-place.place in
    let some = rw (ap (λ (h : Held). h.rows) c.self.view_is) at c.in_ok-place.ensures.some in
    let read = c.index-made-place.is
    ∙ ap (λ (rs : List Row). get_or rs place c.index-made-place.result) c.made_rows-made.ensures.rows
    ∙ get_or_default rows place c.index-made-place.result (blank 0 0) some.0 in
    ap (λ r. Some r) read ∙ sym (found_row rows c.args.number place c.made_rows-made.ensures.numbers some.0 some.1)

pub returns-in_err-place-clause-row : goal.returns-in_err-place-clause-row
returns-in_err-place-clause-row c = c.from_residual.ensures
    ∙ sym (found_none c.args.self.now.rows c.args.number
    (rw (ap (λ (h : Held). h.rows) c.self.view_is) at c.in_err-place.ensures.none))
