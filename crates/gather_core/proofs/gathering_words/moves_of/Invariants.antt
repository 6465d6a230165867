use Rattle.std.proofs.Common.{◌≡◌, take}
use Rattle.gather_core.proofs.Common.{all_moves}
use Rattle.gather_core.proofs.gathering_words.moves_of.Given as goal

-- the shares so far
abbrev pub invariant-loop-share : goal.invariant-loop-share
invariant-loop-share l = l.moves ≡ all_moves (take l.share-index l.shares)
