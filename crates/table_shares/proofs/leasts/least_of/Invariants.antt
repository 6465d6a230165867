use Rattle.std.proofs.Common.{take}
use Rattle.table_shares.proofs.Common.{all_rows, IsLeastSought}
use Rattle.table_shares.proofs.leasts.least_of.Given as goal

-- the least of the rows of the shares so far
abbrev pub invariant-loop-share : goal.invariant-loop-share
invariant-loop-share l = IsLeastSought l.sought (all_rows (take l.share-index l.shares)) l.found
