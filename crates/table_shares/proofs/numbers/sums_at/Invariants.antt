use Rattle.std.proofs.Common.{take}
use Rattle.table_shares.proofs.Common.{all_rows, AreSums}
use Rattle.table_shares.proofs.numbers.sums_at.Given as goal

-- the rows of the shares so far
abbrev pub invariant-loop-share : goal.invariant-loop-share
invariant-loop-share l = AreSums (all_rows (take l.share-index l.shares)) l.number l.found l.sums
