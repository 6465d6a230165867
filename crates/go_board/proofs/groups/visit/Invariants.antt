use Rattle.std.proofs.Common.{◌≡◌}
use Rattle.go_board.specs.Position.{position_in}
use Rattle.go_board.proofs.Visits.{Visiting}
use Rattle.go_board.proofs.groups.visit.Given as goal

abbrev pub invariant-loop-next : goal.invariant-loop-next
invariant-loop-next l =
    (l.group.size ≡ l.size)
    × Visiting l.size (position_in l.size l.stones) l.stone l.fn.point l.next-items l.next-index l.fn.group.points l.group.points
