use Rattle.std.proofs.Common.{◌≡◌, ◌++◌}
use Rattle.shape_dict.specs.Pieces.{entries_in}
use Rattle.shape_dict.proofs.pieces.append_pieces.Given as goal

-- the entries of the lists before this one
abbrev pub invariant-loop-piece : goal.invariant-loop-piece
invariant-loop-piece l = record {
  entries : l.entries.items ≡ l.fn.entries.items ++ entries_in l.yielded;
}
