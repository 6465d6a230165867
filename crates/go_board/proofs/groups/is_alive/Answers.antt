-- While points are left to visit, those found are joined; when none is left, the group is whole.
use Rattle.std.proofs.Common.{◌<◌, ◌≤◌, length, slice_index_or}
use Rattle.std.proofs.lemmas.Bool.{false≢true}
use Rattle.go_board.specs.declared.points.Stone.TheVariants as kind
use Rattle.go_board.specs.Position.{position_in}
use Rattle.go_board.proofs.Floods.{Flooding-more, Flooding-group, Flooding-dead, read_at}
use Rattle.go_board.proofs.groups.is_alive.Goals as goal

pub loop-next-preserved : goal.loop-next-preserved
loop-next-preserved c =
    let in' : c.loop-next.next < length c.loop-next.group.points = rw (← c.len.ensures.value) c.loop-next-test.true in (
      c.visit.ensures.sized,
      Flooding-more c.args.size (position_in c.args.size c.args.stones.now) c.args.point (slice_index_or c.args.stones.now c.index.result kind.Empty)
          c.loop-next.group.points c.visit.new.group.points c.loop-next.next
          (slice_index_or c.points.result.now c.loop-next.next (record { column = 0; row = 0 })) c.loop-next.invariant.1 in'
          (read_at c.loop-next.group.points c.points.result.now c.loop-next.next (record { column = 0; row = 0 }) in' c.points.ensures.value)
          c.visit.ensures.gathers (rw c.if-visit.false at c.visit.ensures.surrounded),
    )

pub returns-clause-alive : goal.returns-clause-alive
returns-clause-alive c =
    let past : length c.loop-next.group.points ≤ c.loop-next.next = rw (← c.len.ensures.value) c.loop-next-test.false in (
      (λ t. absurd (false≢true t)),
      (λ a. absurd (Flooding-dead c.args.size (position_in c.args.size c.args.stones.now) c.args.point
          (slice_index_or c.args.stones.now c.index.result kind.Empty) c.loop-next.group.points c.loop-next.next c.loop-next.invariant.1 past a)),
    )

pub returns-clause-group : goal.returns-clause-group
returns-clause-group c =
    let past : length c.loop-next.group.points ≤ c.loop-next.next = rw (← c.len.ensures.value) c.loop-next-test.false in
    Flooding-group c.args.size (position_in c.args.size c.args.stones.now) c.args.point
    (slice_index_or c.args.stones.now c.index.result kind.Empty) c.loop-next.group.points c.loop-next.next c.loop-next.invariant.1 past
