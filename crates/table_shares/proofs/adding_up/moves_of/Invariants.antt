use Rattle.std.proofs.Common.{◌≡◌, All, take}
use Rattle.table_shares.proofs.Common.{IsShare, all_moves}
use Rattle.table_shares.proofs.adding_up.moves_of.Given as goal

-- the shares so far
abbrev pub invariant-loop-share : goal.invariant-loop-share
invariant-loop-share l = record {
  sum : l.moves ≡ all_moves (take l.share-index l.shares);
  shares : All IsShare (take l.share-index l.shares);
}
