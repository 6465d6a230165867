use Rattle.std.proofs.Common.{take, IfSome}
use Rattle.table_shares.proofs.Common.{IsShape, IsTotalAt, all_rows}
use Rattle.table_shares.proofs.totals.total_at.Given as goal

-- the rows of the shares so far
abbrev pub invariant-loop-share : goal.invariant-loop-share
invariant-loop-share l = record {
  total : IsTotalAt (all_rows (take l.share-index l.shares)) l.number l.total;
  shape : IfSome l.total IsShape;
}
