use Rattle.std.proofs.Common.{All, take}
use Rattle.gather_core.proofs.Common.{IsPassOf, CallsOnly}
use Rattle.gather_core.specs.WordShares.{IsSettled, IsKeyIn, IsFirstOf}
use Rattle.gather_core.proofs.numbering.number_entries.Given as goal

-- the entries so far have their numbers
abbrev pub invariant-loop-entry : goal.invariant-loop-entry
invariant-loop-entry g l = record {
  pass : IsPassOf l.table l.pass;
  calls : CallsOnly l.table.slots (IsKeyIn l.entries) (IsFirstOf l.table.slots l.pass.seen l.entries) l.fn.pass l.pass;
  settled : All (IsSettled l.table.slots l.pass.seen) (take l.entry-index l.entries);
}
