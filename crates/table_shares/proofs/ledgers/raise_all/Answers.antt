use Rattle.std.proofs.Common.{◌<◌, length, ap, ◌∙◌, arith}
use Rattle.table_shares.proofs.Common.{get_or_default, Meeting}
use Rattle.probe_core.specs.declared.calls.Answer.TheVariants as answer
use Rattle.table_shares.proofs.Raised.{raised_more, has_row_stays}
use Rattle.table_shares.proofs.ledgers.raise_all.Goals as goal

pub raise-requires-clause-row : goal.raise-requires-clause-row
raise-requires-clause-row c =
    let i = c.loop-i.i in
    let low : i < length c.args.answers.now = omega (arith, c.requires.rows.long) in
    let is = get_or_default c.args.answers.now i (answer.Number 0) answer.Absent low in
    let row = c.requires.rows.each i low in
    let shape = ap (λ (m : Meeting). m.shape)
    (c.index-meetings-i.is ∙ get_or_default c.args.meetings.now i c.index-meetings-i.result (record { shape = 0; there = 0; played = 0 }) c.loop-i-test.true) in
    (row.0, is ∙ row.1, rw shape (has_row_stays c.args.rows.now c.loop-i.rows row.0 _ c.loop-i.invariant.numbered row.2))

pub loop-i-preserved : goal.loop-i-preserved
loop-i-preserved c =
    let low : c.loop-i.i < length c.args.answers.now = omega (arith, c.requires.rows.long) in
    raised_more c.loop-i.invariant c.loop-i-test.true c.index-meetings-i.is
    (rw (get_or_default c.args.answers.now c.loop-i.i (answer.Number 0) answer.Absent low) at c.raise.ensures)
