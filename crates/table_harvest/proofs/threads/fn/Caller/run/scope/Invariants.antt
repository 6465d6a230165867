use Rattle.std.proofs.Common.{◌≡◌, ◌≤◌, length}
use Rattle.std.specs.Prelude.{All}
use Rattle.shape_core.specs.Word.{count_from}
use Rattle.table_harvest.specs.Inner.Threads.{IsCaller, IsHandleOf, stakes_of, promised_of}
use Rattle.table_harvest.proofs.threads.fn.Caller.run.scope.Given as goal

-- the workers that were started so far have promised to return, and the rest of the endpoint and of the pass is here
abbrev pub invariant-loop : goal.invariant-loop
invariant-loop g l =
    let first = l.initial.caller in
    record {
      caller : IsCaller first.own.table.now first.own.endpoint.queue first.games.bytes first.own.kinds (stakes_of l.handles.items) l.started l.caller;
      begun : l.caller.begun ≡ first.begun;
      workers : l.caller.own.workers ≡ first.own.workers;
      few : l.started ≤ l.counter;
      each : length l.handles.items ≡ l.started;
      numbers : promised_of l.handles.items ≡ count_from 1 l.started;
      handles : All (IsHandleOf first.own.table.now first.own.endpoint.queue first.games.bytes first.own.kinds) l.handles.items;
    }
