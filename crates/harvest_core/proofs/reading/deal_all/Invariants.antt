use Rattle.std.proofs.Common.{◌≡◌, ◌^◌, ◌-◌}
use Rattle.job_core.specs.Inner.Rule.{IsInStep}
use Rattle.harvest_core.specs.Inner.Dealt.{IsDealt}
use Rattle.harvest_core.proofs.reading.deal_all.Given as goal

-- the games so far
abbrev pub invariant-loop-job : goal.invariant-loop-job
invariant-loop-job g l = record {
  bytes : l.games.bytes ≡ l.fn.games.bytes;
  endpoint : l.own.endpoint ≡ record l.fn.own.endpoint { put = l.own.endpoint.put };
  step : IsInStep l.games l.own.endpoint;
  dealt : IsDealt l.fn.shared l.games.report.games l.own;
}

-- each turn reads a game, and an input has at most 2 ^ 28 of them
abbrev pub decreases-loop-job : goal.decreases-loop-job
decreases-loop-job g l = 2 ^ 28 - l.games.report.games
