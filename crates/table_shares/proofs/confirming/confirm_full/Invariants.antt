use Rattle.std.proofs.Common.{[]}
use Rattle.table_shares.proofs.Common.{IsPassOf, IsLater, all_rows}
use Rattle.table_shares.proofs.Confirmed.{AreConfirmed}
use Rattle.table_shares.proofs.confirming.confirm_full.Given as goal

-- the numbers so far are known, and the word has no row of any of them
abbrev pub invariant-loop-number : goal.invariant-loop-number
invariant-loop-number g l = record {
  pass : IsPassOf l.table l.pass;
  later : IsLater l.table.slots l.fn.pass [] l.pass;
  confirmed : AreConfirmed l.table.slots l.pass.seen (all_rows l.shares) l.word l.number;
}
