use Rattle.std.proofs.Common.{◌≡◌, ◌-◌, ◌≤◌, true, length, IfSome}
use Rattle.game_core.proofs.games.Games.next_job.Given as goal

abbrev pub invariant-loop-job : goal.invariant-loop-job
invariant-loop-job l = record {
  bytes : l.self.bytes ≡ l.fn.self.bytes;
  games : l.self.report.games ≡ l.fn.self.report.games;
  from : l.fn.self.from ≤ l.self.from;
  same : IfSome l.fn.self.fault (λ found. l.self ≡ l.fn.self);
  ended : l.fn.self.ended ≡ true → l.self ≡ l.fn.self;
}

abbrev pub decreases-loop-job : goal.decreases-loop-job
decreases-loop-job l = length l.self.bytes - l.self.from
