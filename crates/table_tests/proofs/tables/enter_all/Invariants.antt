use Rattle.slot_table.specs.Passes.{IsPassOf}
use Rattle.table_tests.proofs.tables.enter_all.Given as goal

abbrev pub invariant-loop-step : goal.invariant-loop-step
invariant-loop-step g l = IsPassOf l.table l.pass
