use Rattle.std.proofs.Common.{◌≡◌, length, take}
use Rattle.shape_dict.specs.Pieces.{entries_in}
use Rattle.shape_dict.proofs.pieces.length_of.Given as goal

-- the entries of the lists before this one
abbrev pub invariant-loop-piece : goal.invariant-loop-piece
invariant-loop-piece l = record {
  counted : l.len ≡ length (entries_in (take l.piece-index l.pieces));
}
