use Rattle.std.proofs.Common.{◌≡◌, length, take}
use Rattle.shape_dict.specs.Contents.{squares_of}
use Rattle.shape_dict.specs.Pieces.{entries_in}
use Rattle.shape_dict.proofs.pieces.squares_in.Given as goal

-- the squares of the lists before this one
abbrev pub invariant-loop-piece : goal.invariant-loop-piece
invariant-loop-piece l = record {
  counted : l.squares ≡ length (squares_of (entries_in (take l.piece-index l.pieces)));
}
