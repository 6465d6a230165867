use Rattle.table_shares.proofs.Common.{AreNumbers}
use Rattle.table_shares.proofs.entering.refused.Given as goal

-- the answers so far are numbers
abbrev pub invariant-loop-i : goal.invariant-loop-i
invariant-loop-i l = AreNumbers l.answers l.i
