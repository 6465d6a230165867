use Rattle.std.proofs.Common.{◌≡◌, ◌≤◌, ◌^◌, ◌-◌}
use Rattle.beyond_core.proofs.too_many.job_of.Given as goal

-- the game was not read yet
abbrev pub invariant-turn : goal.invariant-turn
invariant-turn l = record {
  bytes : l.games.bytes ≡ l.fn.bytes;
  few : l.games.report.games ≤ l.game;
}

-- each turn reads a game, and an input has at most 2 ^ 28 of them
abbrev pub decreases-turn : goal.decreases-turn
decreases-turn l = 2 ^ 28 - l.games.report.games
