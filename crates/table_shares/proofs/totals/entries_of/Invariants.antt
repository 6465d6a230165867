use Rattle.table_shares.proofs.Common.{AreListed, all_rows}
use Rattle.table_shares.proofs.totals.entries_of.Given as goal

-- the numbers so far
abbrev pub invariant-loop-number : goal.invariant-loop-number
invariant-loop-number l = AreListed (all_rows l.fn.shares) l.number l.entries.items
