use Rattle.std.proofs.Common.{◌≡◌, length, take}
use Rattle.table_shares.proofs.Common.{all_games, AreNoted}
use Rattle.table_shares.proofs.covering.seen_of.Given as goal

-- the games of the shares so far are noted
abbrev pub invariant-loop-share : goal.invariant-loop-share
invariant-loop-share l = record {
  long : length l.seen.games.items ≡ l.fn.games;
  noted : AreNoted (all_games (take l.share-index l.shares)) l.seen;
}
