use Rattle.std.proofs.Common.{◌≡◌, ◌≤◌, length}
use Rattle.beyond_core.specs.Inner.TooMany.{entries_before}
use Rattle.beyond_core.proofs.reaching.game_of.Given as goal

-- the games below this one have no more
abbrev pub invariant-loop-game : goal.invariant-loop-game
invariant-loop-game l = record {
  before : l.before ≡ length (entries_before l.game l.dictionary.entries);
  few : l.before ≤ l.most;
}
