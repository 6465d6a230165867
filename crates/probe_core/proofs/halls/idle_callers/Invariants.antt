use Rattle.std.proofs.Common.{◌≡◌, replicate, None}
use Rattle.probe_core.proofs.halls.idle_callers.Given as goal

abbrev pub invariant-loop : goal.invariant-loop
invariant-loop g l = l.callers.items ≡ replicate l.counter None
