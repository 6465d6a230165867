use Rattle.std.proofs.Common.{take}
use Rattle.std.specs.List.{All}
use Rattle.shape_dict.specs.Pieces.{entries_in}
use Rattle.tally_parts.proofs.Small.{IsSmallUse}
use Rattle.tally_parts.proofs.counting.numbers_fit.Given as goal

-- those of the lists before this one
abbrev pub invariant-loop-piece : goal.invariant-loop-piece
invariant-loop-piece l = All IsSmallUse (entries_in (take l.piece-index l.pieces))
