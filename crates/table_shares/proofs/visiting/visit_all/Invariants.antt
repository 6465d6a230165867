use Rattle.table_shares.proofs.Common.{IsPassOf, all_rows, AsksOnly, AreVisited}
use Rattle.table_shares.proofs.visiting.visit_all.Given as goal

-- the numbers so far were visited
abbrev pub invariant-loop-number : goal.invariant-loop-number
invariant-loop-number g l = record {
  pass : IsPassOf l.table l.pass;
  later : AsksOnly l.table.slots l.fn.pass l.pass;
  visited : AreVisited l.table.slots (all_rows l.shares) l.number l.fn.pass l.pass l.differs;
}
