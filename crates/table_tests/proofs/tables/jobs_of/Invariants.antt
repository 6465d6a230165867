use Rattle.std.proofs.Common.{All}
use Rattle.slot_table.specs.Passes.{IsPassOf}
use Rattle.table_tests.proofs.tables.jobs_of.Given as goal

abbrev pub invariant-loop-first : goal.invariant-loop-first
invariant-loop-first g l = IsPassOf l.table l.pass × All (λ job. IsPassOf l.table job.pass) l.jobs.items
