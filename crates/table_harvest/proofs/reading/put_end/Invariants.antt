use Rattle.std.proofs.Common.{◌≡◌}
use Rattle.table_harvest.proofs.reading.put_end.Given as goal

-- nothing was put yet
abbrev pub invariant-loop : goal.invariant-loop
invariant-loop g l = l.endpoint ≡ l.fn.endpoint
