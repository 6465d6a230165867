use Rattle.std.proofs.Common.{take}
use Rattle.beyond_core.specs.Inner.TooMany.{new_words, HasWords}
use Rattle.shape_dict.specs.Pieces.{entries_in}
use Rattle.beyond_core.proofs.too_many.new_of.Given as goal

-- the words of the lists before this one
abbrev pub invariant-loop-piece : goal.invariant-loop-piece
invariant-loop-piece l = HasWords l.words (new_words l.game (entries_in (take l.piece-index l.pieces)))
