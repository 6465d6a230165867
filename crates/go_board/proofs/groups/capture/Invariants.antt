use Rattle.std.proofs.Common.{◌≡◌, take}
use Rattle.go_board.specs.Position.{position_in}
use Rattle.go_board.proofs.Capturing.{Capturing}
use Rattle.go_board.proofs.groups.capture.Given as goal

abbrev pub invariant-loop-next : goal.invariant-loop-next
invariant-loop-next l =
    (l.group.size ≡ l.size)
    × (l.removed.size ≡ l.size)
    × Capturing l.size (position_in l.size l.fn.stones) l.opponent (take l.next-index l.next-items) (position_in l.size l.stones) l.removed.points
