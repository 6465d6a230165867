use Rattle.std.proofs.Common.{◌≡◌, length, take}
use Rattle.shape_dict.specs.Pieces.{entries_in}
use Rattle.beyond_core.specs.Inner.TooMany.{AreCounts}
use Rattle.beyond_core.proofs.reaching.counts_of.Given as goal

-- the entries of the lists before this one are counted
abbrev pub invariant-loop-piece : goal.invariant-loop-piece
invariant-loop-piece l = record {
  long : length l.counts.items ≡ l.fn.dictionary.games;
  counted : AreCounts l.counts.items (entries_in (take l.piece-index l.piece-items));
}
