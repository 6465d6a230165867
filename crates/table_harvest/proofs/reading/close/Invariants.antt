use Rattle.std.proofs.Common.{◌≡◌, ◌+◌}
use Rattle.table_harvest.proofs.reading.close.Given as goal

-- as many ends as turns were put
abbrev pub invariant-loop : goal.invariant-loop
invariant-loop g l = l.endpoint ≡ record l.fn.endpoint { ends_put = l.fn.endpoint.ends_put + l.counter }
