use Rattle.std.proofs.Common.{◌≡◌, ◌^◌, ◌-◌, None}
use Rattle.plain_core.specs.Inner.Counting.{IsWithin, CountsUpTo}
use Rattle.plain_core.proofs.counting.count_games.Given as goal

abbrev pub invariant-game : goal.invariant-game
invariant-game l = record {
  bytes : l.walker.games.bytes ≡ l.fn.walker.games.bytes;
  no_fault : l.walker.games.fault ≡ None;
  kinds : l.walker.walk.kinds ≡ l.fn.walker.walk.kinds;
  counted : CountsUpTo l.fn.walker.walk.kinds l.fn.walker.games.bytes l.walker.games.report.games l.counter;
  within : IsWithin l.walker.games.from l.counter;
}

-- each turn reads a game, and an input has at most 2 ^ 28 of them
abbrev pub decreases-game : goal.decreases-game
decreases-game l = 2 ^ 28 - l.walker.games.report.games
