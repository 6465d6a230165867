use Rattle.std.proofs.Common.{◌≡◌, map, take}
use Rattle.go_board.specs.Board.{position_of}
use Rattle.shape_core.specs.Inner.Table.{offset_of}
use Rattle.shape_core.specs.Word.{sum_of}
use Rattle.shape_core.proofs.Reach.{codes_round}
use Rattle.shape_core.proofs.surroundings.sum_around.Given as goal

abbrev pub invariant-loop-cell : goal.invariant-loop-cell
invariant-loop-cell l =
    l.sum ≡ sum_of (take l.cell (codes_round l.board.size (position_of l.board) l.point (map offset_of l.cells)))
