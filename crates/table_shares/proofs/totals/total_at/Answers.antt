use Rattle.std.proofs.Common.{◌≡◌, ◌+◌, ◌++◌, take, drop, ap, sym, ◌∙◌}
use Rattle.std.proofs.lemmas.Grind.{flat_map-append}
use Rattle.table_shares.proofs.Common.{err_from_is_err_and, take-append-drop, Held, all_rows}
use Rattle.table_shares.proofs.Strangers.{flat_map_next}
use Rattle.table_shares.proofs.Totalled.{total_other, sum_fault_more}
use Rattle.table_shares.proofs.totals.total_at.Goals.{in-Some+in_ok-add, in_default}
use Rattle.table_shares.proofs.totals.total_at.Goals as goal

pub returns-in_err-add-clause-fault : goal.returns-in_err-add-clause-fault
returns-in_err-add-clause-fault c =
    let shares = c.args.shares.now in
    let number = c.args.number in
    let i = c.loop-share.share-index in
    let share = c.share-item.result in
    let rows = λ (s : Held). s.rows in
    let found = c.in_err-add.field-0.0 in
    let next = flat_map_next rows shares i share c.loop-share-test.true c.share-item.is in
    let before = c.in_err-add.ensures.fault (all_rows (take i shares)) share.rows number c.row_at.ensures.numbers (sym c.row_at.ensures.row ∙ c.in-Some.is) c.loop-share.invariant.total in
    let whole : all_rows (take (i + 1) shares) ++ all_rows (drop (i + 1) shares) ≡ all_rows shares =
    sym (flat_map-append rows (take (i + 1) shares) (drop (i + 1) shares)) ∙ ap all_rows (take-append-drop (i + 1) shares) in
    let p = err_from_is_err_and c.from_residual.result c.from_residual.ensures.1 in
    rw (p.1, p.2) (rw whole at
    (sum_fault_more (all_rows (take (i + 1) shares)) (all_rows (drop (i + 1) shares)) number found (rw next before)))

pub loop-share-preserved : goal.loop-share-preserved
loop-share-preserved c =
    let shares = c.args.shares.now in
    let number = c.args.number in
    let i = c.loop-share.share-index in
    let share = c.share-item.result in
    let before = all_rows (take i shares) in
    let h = c.loop-share.invariant in
    rw (flat_map_next (λ (s : Held). s.rows) shares i share c.loop-share-test.true c.share-item.is)
    (elim c.match-row_at.branch [
      | in-Some+in_ok-add w ↦ rw w.total-is (record {
        total = w.in_ok-add.ensures.ok before share.rows number c.row_at.ensures.numbers (sym w.in-Some.ensures.row) h.total;
        shape = w.in_ok-add.ensures.shape h.shape;
      })
      | in_default w ↦ rw w.total-is (record {
        total = total_other before share.rows number c.loop-share.total (sym w.in_default.ensures.row) h.total;
        shape = h.shape;
      })
    ])
