use Rattle.std.proofs.Common.{◌≡◌}
use Rattle.shape_dict.specs.Inner.Parts.{lines_of}
use Rattle.shape_dict.specs.Pieces.{entries_in}
use Rattle.std.proofs.Common.{take}
use Rattle.shape_dict.proofs.parts.lines_part.Given as goal

-- the lines of the lists before this one
abbrev pub invariant-loop-list : goal.invariant-loop-list
invariant-loop-list l = record {
  lines : l.part.items ≡ lines_of l.text (entries_in (take l.list-index l.lists));
}
