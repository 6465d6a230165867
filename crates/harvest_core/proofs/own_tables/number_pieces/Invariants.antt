use Rattle.slot_table.specs.Passes.{IsPassOf}
use Rattle.harvest_core.proofs.own_tables.number_pieces.Given as goal

abbrev pub invariant-loop-piece : goal.invariant-loop-piece
invariant-loop-piece g l = IsPassOf l.table l.pass
