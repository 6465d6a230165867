use Rattle.table_shares.proofs.Common.{Gained, HaveRows}
use Rattle.table_shares.proofs.workings.make_all.Given as goal

-- the meetings so far have rows, where they got numbers
abbrev pub invariant-loop-i : goal.invariant-loop-i
invariant-loop-i l = record {
  gained : Gained l.meetings l.answers l.fn.rows l.rows;
  made : HaveRows l.meetings l.answers l.i l.rows;
}
