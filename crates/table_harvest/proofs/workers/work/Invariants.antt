use Rattle.std.proofs.Common.{◌≡◌}
use Rattle.slot_table.specs.Passes.{IsPassOf}
use Rattle.table_harvest.specs.InTable.{IsInTableSince}
use Rattle.harvest_core.specs.Working.{IsWorked}
use Rattle.table_harvest.specs.Working.{IsRefused}
use Rattle.table_harvest.proofs.Drawn.{HasSoFar}
use Rattle.table_harvest.proofs.workers.work.Given as goal

-- the games so far
abbrev pub invariant-loop : goal.invariant-loop
invariant-loop g l =
    let worker = l.fn.worker in
    record {
      pass : IsPassOf worker.table.now l.pass;
      number : l.worked.share.worker ≡ worker.number;
      worked : IsWorked worker.endpoint.bytes worker.kinds l.worked.share;
      refused : IsRefused worker.endpoint.bytes worker.kinds l.worked.refused;
      drawn : HasSoFar worker.table.now.slots worker.kinds worker.pass l.pass worker.endpoint l.worked l.endpoint;
      in_table : IsInTableSince worker.table.now.slots worker.pass l.pass l.worked;
    }
