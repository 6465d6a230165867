use Rattle.std.proofs.Common.{◌≡◌, ◌<◌, ℕ, List}
use Rattle.table_shares.proofs.Common.{times_of, AreNoted}
use Rattle.table_shares.proofs.covering.judge.Given as goal

-- the games so far were seen once
abbrev pub invariant-loop-game : goal.invariant-loop-game
invariant-loop-game l = (list : List ℕ) → AreNoted list l.seen → (other : ℕ) → other < l.game → times_of list other ≡ 1
