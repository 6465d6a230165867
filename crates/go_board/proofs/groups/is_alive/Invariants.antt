use Rattle.std.proofs.Common.{◌≡◌, ◌-◌, ◌*◌}
use Rattle.go_board.specs.Position.{position_in}
use Rattle.go_board.proofs.Floods.{Flooding}
use Rattle.go_board.proofs.groups.is_alive.Given as goal

abbrev pub invariant-loop-next : goal.invariant-loop-next
invariant-loop-next l =
    (l.group.size ≡ l.size) × Flooding l.size (position_in l.size l.stones) l.fn.point l.stone l.group.points l.next

abbrev pub decreases-loop-next : goal.decreases-loop-next
decreases-loop-next l = l.size.columns * l.size.rows - l.next
