use Rattle.std.proofs.Common.{sym, ◌∙◌, arith}
use Rattle.table_shares.proofs.Found.{row_among}
use Rattle.table_shares.proofs.Common.{OnTrue_from, HasShape, nat_tests}
use Rattle.table_shares.proofs.confirming.has_there.Goals as goal

pub returns-in-Some : goal.returns-in-Some
returns-in-Some c =
    let rows = c.args.share.now.rows in
    let row = c.in-Some.row in
    let among = row_among rows c.args.number row (sym c.row_at.ensures.row ∙ c.in-Some.is) in
    OnTrue_from _ (HasShape rows c.args.bits) (λ same. (row, among, Prim.grind (arith, nat_tests, c.bits.ensures.value, c.word.ensures.value)))
