use Rattle.std.proofs.Common.{◌≡◌, ℕ, List, ◌++◌, length, take}
use Rattle.table_shares.proofs.Common.{AreNoted}
use Rattle.table_shares.proofs.covering.note_all.Given as goal

-- the games so far are noted
abbrev pub invariant-loop-game : goal.invariant-loop-game
invariant-loop-game l = record {
  long : length l.seen.games.items ≡ length l.fn.seen.games.items;
  noted : (list : List ℕ) → AreNoted list l.fn.seen → AreNoted (list ++ take l.game-index l.games) l.seen;
}
