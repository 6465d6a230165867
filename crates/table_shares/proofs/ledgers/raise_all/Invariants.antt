use Rattle.std.proofs.Common.{take}
use Rattle.table_shares.proofs.Common.{AreRaised}
use Rattle.table_shares.proofs.ledgers.raise_all.Given as goal

-- the meetings so far were added
abbrev pub invariant-loop-i : goal.invariant-loop-i
invariant-loop-i l = AreRaised (take l.i l.meetings) l.meetings l.answers l.game l.initial.rows l.rows
