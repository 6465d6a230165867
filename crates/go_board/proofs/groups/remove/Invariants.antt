use Rattle.std.proofs.Common.{◌≡◌}
use Rattle.go_board.proofs.Removals.{Removing}
use Rattle.go_board.proofs.groups.remove.Given as goal

abbrev pub invariant-loop-point : goal.invariant-loop-point
invariant-loop-point l =
    (l.removed.size ≡ l.size)
    × Removing l.size l.point-items l.point-index l.fn.stones l.stones l.fn.removed.points l.removed.points
