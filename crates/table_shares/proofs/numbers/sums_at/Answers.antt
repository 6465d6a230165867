use Rattle.std.proofs.Common.{take, sym}
use Rattle.table_shares.proofs.Common.{all_rows, Held}
use Rattle.table_shares.proofs.Strangers.{sums_kept, flat_map_next}
use Rattle.table_shares.proofs.numbers.sums_at.Goals as goal
use Rattle.table_shares.proofs.numbers.sums_at.Goals.{in-Some, in_default}

pub loop-share-preserved : goal.loop-share-preserved
loop-share-preserved c =
    let shares = c.args.shares.now in
    let i = c.loop-share.share-index in
    let share = c.share-item.result in
    let before = all_rows (take i shares) in
    rw (flat_map_next (λ (s : Held). s.rows) shares i share c.loop-share-test.true c.share-item.is)
    (elim c.match-row_at.branch [
      | in-Some w ↦
          rw w.sums-is (w.add-sums.ensures before share.rows c.args.number c.row_at.ensures.numbers (sym w.in-Some.ensures.row) c.loop-share.invariant)
      | in_default w ↦
          rw w.sums-is (sums_kept before share.rows c.args.number c.args.found c.loop-share.sums (sym w.in_default.ensures.row) c.loop-share.invariant)
    ])
