use Rattle.std.proofs.Common.{◌≡◌, ◌^◌, ◌-◌, length}
use Rattle.hits_core.specs.Inner.Reading.{ReadsUpTo}
use Rattle.hits_core.proofs.reading.read_games.Given as goal

abbrev pub invariant-loop-games : goal.invariant-loop-games
invariant-loop-games l = record {
  bytes : l.reader.bytes ≡ l.input;
  number : l.reader.report.games ≡ length l.games.items;
  reads : ReadsUpTo l.input l.first l.reader.from l.games.items;
}

-- each turn reads a game, and an input has at most 2 ^ 28 of them
abbrev pub decreases-loop-games : goal.decreases-loop-games
decreases-loop-games l = 2 ^ 28 - l.reader.report.games
