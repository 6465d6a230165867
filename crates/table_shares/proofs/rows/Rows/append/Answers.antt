use Rattle.std.proofs.Common.{◌+◌, arith, ap, length}
use Rattle.table_shares.proofs.Common.{sum_by_push, Row}
use Rattle.table_shares.proofs.Found.{put_last}
use Rattle.table_shares.proofs.rows.Rows.append.Goals as goal

pub invariant_of-self-2 : goal.invariant_of-self-2
invariant_of-self-2 c =
    let updates = rw (ap length c.as_slice-place.ensures.value) at c.in_ok-insert.ensures.updates in
    let weight = sum_by_push (λ (r : Row). r.there + r.played) c.self.inside.rows.items c.args.row in
    rw (c.push_reserved.ensures.items, c.reserve.ensures.items) (
      put_last c.self.invariant.0 c.args.row c.requires.small (rw c.self.view_is c.requires.none) updates,
      omega (arith, weight, c.in-Some.ensures.some, c.self.invariant.1),
    )
