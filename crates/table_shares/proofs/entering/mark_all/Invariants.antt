use Rattle.table_shares.proofs.Common.{IsPassOf, MarksOnly, IsMarkAmong, AreMarked}
use Rattle.table_shares.proofs.entering.mark_all.Given as goal

-- the numbers so far are marked
abbrev pub invariant-loop-found : goal.invariant-loop-found
invariant-loop-found g l = record {
  pass : IsPassOf l.table l.pass;
  marks : MarksOnly l.table.slots (IsMarkAmong l.answers l.game) l.fn.pass l.pass;
  marked : AreMarked l.pass.seen l.game l.answers l.found-index;
}
