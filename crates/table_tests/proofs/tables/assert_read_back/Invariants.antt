use Rattle.std.proofs.Common.{All}
use Rattle.slot_table.specs.Passes.{IsPassOf}
use Rattle.table_tests.proofs.tables.assert_read_back.Given as goal

abbrev pub invariant-loop-other : goal.invariant-loop-other
invariant-loop-other g l = IsPassOf l.table l.all × All (λ done. IsPassOf l.table done.pass) l.done.items

abbrev pub decreases-loop-other : goal.decreases-loop-other
decreases-loop-other g l = goal.left-loop-other g l
