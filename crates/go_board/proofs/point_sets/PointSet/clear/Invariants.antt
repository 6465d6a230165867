use Rattle.go_board.proofs.Sets.{Clearing}
use Rattle.go_board.proofs.point_sets.PointSet.clear.Given as goal

abbrev pub invariant-loop-k : goal.invariant-loop-k
invariant-loop-k l = Clearing l.initial.self-inside.size l.self-inside.size l.self-inside.marks.items l.self-inside.members.items l.self-inside.count l.k-end l.k
