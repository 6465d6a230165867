use Rattle.slot_table.specs.Passes.{IsPassOf}
use Rattle.table_tests.proofs.tables.assert_found.Given as goal

abbrev pub invariant-loop-key : goal.invariant-loop-key
invariant-loop-key g l = IsPassOf l.table l.pass
