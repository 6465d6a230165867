use Rattle.std.proofs.Common.{◌≡◌, arith}
use Rattle.table_shares.proofs.Common.{err_from_is_err_and, Row, all_rows, there_at}
use Rattle.table_shares.proofs.Ordered.{listed_none, listed_more, entries_listed}
use Rattle.table_shares.proofs.Totalled.{list_fault, sum_none}
use Rattle.table_shares.proofs.totals.entries_of.Goals.{then-total-gt0+in_ok-push, else-total-gt0}
use Rattle.table_shares.proofs.totals.entries_of.Goals as goal

pub returns-in_err-total-clause-fault : goal.returns-in_err-total-clause-fault
returns-in_err-total-clause-fault c =
    let p = err_from_is_err_and c.from_residual.result c.from_residual.ensures.1 in
    rw (p.1, p.2) (list_fault (all_rows c.args.shares.now) c.loop-number.number c.in_err-total.field-0.0 c.requires.each c.in_err-total.ensures.fault)

pub loop-number-preserved-in_default : goal.loop-number-preserved-in_default
loop-number-preserved-in_default c =
    let rows = all_rows c.args.shares.now in
    let number = c.loop-number.number in
    listed_none rows number c.loop-number.entries.items c.loop-number.invariant
    (sum_none (λ (r : Row). r.there) rows number (rw c.in_default.is at c.in_ok-total.ensures.total))

pub loop-number-preserved : goal.loop-number-preserved
loop-number-preserved c =
    let rows = all_rows c.args.shares.now in
    let number = c.loop-number.number in
    let before = c.loop-number.entries.items in
    let h = c.loop-number.invariant in
    let total = rw c.in-Some.is at c.in_ok-total.ensures.total in
    let shape = rw c.in-Some.is at c.in_ok-total.ensures.shape in
    elim c.if-total-gt0.branch [
      | then-total-gt0+in_ok-push w ↦ rw (w.entries-is, w.in_ok-push.ensures.items)
          (listed_more rows number before h c.in-Some.total total w.if-total-gt0.true shape c.requires.each)
      | else-total-gt0 w ↦ rw w.entries-is
          (listed_none rows number before h (let none : there_at rows number ≡ 0 = omega (arith, total.there, w.if-total-gt0.false) in none))
    ]

pub returns-clause-entries : goal.returns-clause-entries
returns-clause-entries c =
    entries_listed (all_rows c.args.shares.now) c.loop-number.number c.loop-number.entries.items c.loop-number.invariant
    (λ row among. omega (arith, c.requires.below row among, c.loop-number-test.false)) c.requires.each
