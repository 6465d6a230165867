use Rattle.std.proofs.Common.{◌≡◌, ◌+◌, ◌≤◌, length, All}
use Rattle.job_core.specs.Rule.{all_parts}
use Rattle.harvest_core.specs.Inner.Threads.{reader_of, IsFresh}
use Rattle.harvest_core.proofs.threads.worker_seats.Given as goal

-- each seat so far has a part of the endpoint
abbrev pub invariant-loop-number : goal.invariant-loop-number
invariant-loop-number l = record {
  endpoint : l.endpoint ≡ reader_of l.fn.shared l.endpoint.parts;
  parts : l.endpoint.parts + length l.seats.items ≡ all_parts;
  few : length l.seats.items + 1 ≤ l.number;
  fresh : All (IsFresh l.fn.shared) l.seats.items;
}
