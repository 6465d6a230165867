use Rattle.std.proofs.Common.{List, ◌++◌, take}
use Rattle.table_shares.proofs.Common.{Row, IsLeastSought}
use Rattle.table_shares.proofs.leasts.least_in.Given as goal

-- the least of the rows so far
abbrev pub invariant-loop-row : goal.invariant-loop-row
invariant-loop-row l = (rows : List Row) → IsLeastSought l.sought rows l.fn.least → IsLeastSought l.sought (rows ++ take l.row-index l.more) l.found
