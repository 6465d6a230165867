use Rattle.std.proofs.Common.{◌≡◌, ◌^◌, ◌-◌, ◌≤◌}
use Rattle.job_core.specs.Rising.{past}
use Rattle.job_core.specs.Inner.Rule.{IsInStep}
use Rattle.slot_table.specs.Passes.{IsPassOf}
use Rattle.table_harvest.specs.InTable.{IsInTableSince}
use Rattle.harvest_core.specs.Working.{IsWorked}
use Rattle.table_harvest.specs.Working.{IsRefused, CallsIn}
use Rattle.table_harvest.specs.Inner.Reading.{AreDealt}
use Rattle.table_harvest.proofs.reading.read_all.Given as goal

-- the games so far
abbrev pub invariant-loop-job : goal.invariant-loop-job
invariant-loop-job g l =
    let before = l.fn.own in
    record {
      same : l.own ≡ record before { endpoint = record before.endpoint { put = l.own.endpoint.put }; pass = l.own.pass };
      pass : IsPassOf before.table.now l.own.pass;
      bytes : l.games.bytes ≡ l.fn.games.bytes;
      step : IsInStep l.games l.own.endpoint;
      above : past l.worked.share.games ≤ l.games.report.games;
      dealt : AreDealt l.games.report.games l.own.endpoint.put l.worked;
      worker : l.worked.share.worker ≡ l.fn.worked.share.worker;
      worked : IsWorked l.fn.games.bytes before.kinds l.worked.share;
      refused : IsRefused l.fn.games.bytes before.kinds l.worked.refused;
      calls : CallsIn before.table.now.slots l.fn.games.bytes before.kinds before.pass l.own.pass;
      in_table : IsInTableSince before.table.now.slots before.pass l.own.pass l.worked;
    }

-- each turn reads a game, and an input has at most 2 ^ 28 of them
abbrev pub decreases-loop-job : goal.decreases-loop-job
decreases-loop-job g l = 2 ^ 28 - l.games.report.games
