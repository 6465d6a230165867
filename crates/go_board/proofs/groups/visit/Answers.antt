-- Each neighbour that is looked at is not empty, and is in the group if the stone stands there.
use Rattle.std.proofs.Common.{◌≡◌, ◌≢◌, ◌∙◌, ◌<◌, length, slice_index_or}
use Rattle.go_board.specs.Position.{position_in}
use Rattle.go_board.specs.declared.points.Stone.TheVariants as stone
use Rattle.go_board.proofs.Places.{shown_on}
use Rattle.go_board.proofs.Stones.{same_stone, other_stone}
use Rattle.go_board.proofs.Visits.{Visiting-start, Visiting-none, Visiting-other, Visiting-add, Visiting-end, neighbour_at}
use Rattle.go_board.proofs.groups.visit.Goals as goal
use Rattle.go_board.proofs.groups.visit.Goals.{in-Some+else-eq+then-eq-2, in-Some+else-eq+else-eq-2, in_default}

pub loop-next-init : goal.loop-next-init
loop-next-init c = (c.requires.sized, Visiting-start c.args.size (position_in c.args.size c.args.stones.now) c.args.stone c.args.point c.neighbours.result c.args.group.now.points)

pub add-requires : goal.add-requires
add-requires c =
    let found = neighbour_at c.args.size c.args.point c.neighbours.result c.loop-next.next-index c.in-Some.next (rw c.neighbours.ensures.four c.loop-next-test.true) c.neighbours.ensures.only c.in-Some.is in
    rw c.loop-next.invariant.0 found.0

pub returns-then-eq-clause-sized : goal.returns-then-eq-clause-sized
returns-then-eq-clause-sized c = c.loop-next.invariant.0

pub returns-then-eq-clause-gathers : goal.returns-then-eq-clause-gathers
returns-then-eq-clause-gathers c = c.loop-next.invariant.1.gathers

pub loop-next-preserved : goal.loop-next-preserved
loop-next-preserved c = elim c.match-next.branch [
  | in-Some+else-eq+then-eq-2 w ↦ (
      let in' : c.loop-next.next-index < length c.neighbours.result = rw c.neighbours.ensures.four c.loop-next-test.true in
      let found = neighbour_at c.args.size c.args.point c.neighbours.result c.loop-next.next-index w.in-Some.next in' c.neighbours.ensures.only w.in-Some.is in
      let full : position_in c.args.size c.args.stones.now w.in-Some.next ≢ stone.Empty =
      rw (shown_on c.args.size c.args.stones.now w.in-Some.next found.0, ← w.index.ensures.value) (other_stone (slice_index_or c.args.stones.now w.index.result stone.Empty) stone.Empty w.eq.result w.eq.ensures w.if-eq.false) in
      let same : position_in c.args.size c.args.stones.now w.in-Some.next ≡ c.args.stone =
      rw (shown_on c.args.size c.args.stones.now w.in-Some.next found.0, ← w.index.ensures.value) (same_stone (slice_index_or c.args.stones.now w.index.result stone.Empty) c.args.stone w.eq-in-Some.result w.eq-in-Some.ensures w.if-eq-2.true) in
      rw w.group-is (
        w.add.ensures.size ∙ c.loop-next.invariant.0,
        Visiting-add c.args.size (position_in c.args.size c.args.stones.now) c.args.stone c.args.point c.neighbours.result c.loop-next.next-index
            w.in-Some.next c.args.group.now.points c.loop-next.group.points w.add.new.self.points in' w.in-Some.is
            (record { on_board = found.0; next_to = found.1; of_kind = same }) full w.add.ensures.points c.loop-next.invariant.1,
      ))
  | in-Some+else-eq+else-eq-2 w ↦ (
      let in' : c.loop-next.next-index < length c.neighbours.result = rw c.neighbours.ensures.four c.loop-next-test.true in
      let found = neighbour_at c.args.size c.args.point c.neighbours.result c.loop-next.next-index w.in-Some.next in' c.neighbours.ensures.only w.in-Some.is in
      let full : position_in c.args.size c.args.stones.now w.in-Some.next ≢ stone.Empty =
      rw (shown_on c.args.size c.args.stones.now w.in-Some.next found.0, ← w.index.ensures.value) (other_stone (slice_index_or c.args.stones.now w.index.result stone.Empty) stone.Empty w.eq.result w.eq.ensures w.if-eq.false) in
      let other : position_in c.args.size c.args.stones.now w.in-Some.next ≢ c.args.stone =
      rw (shown_on c.args.size c.args.stones.now w.in-Some.next found.0, ← w.index.ensures.value) (other_stone (slice_index_or c.args.stones.now w.index.result stone.Empty) c.args.stone w.eq-in-Some.result w.eq-in-Some.ensures w.if-eq-2.false) in
      rw w.group-is (
        c.loop-next.invariant.0,
        Visiting-other c.args.size (position_in c.args.size c.args.stones.now) c.args.stone c.args.point c.neighbours.result c.loop-next.next-index
            w.in-Some.next c.args.group.now.points c.loop-next.group.points in' w.in-Some.is full other c.loop-next.invariant.1,
      ))
  | in_default w ↦ (
      let in' : c.loop-next.next-index < length c.neighbours.result = rw c.neighbours.ensures.four c.loop-next-test.true in
      rw w.group-is (
        c.loop-next.invariant.0,
        Visiting-none c.args.size (position_in c.args.size c.args.stones.now) c.args.stone c.args.point c.neighbours.result c.loop-next.next-index
            c.args.group.now.points c.loop-next.group.points in' w.in_default.is c.loop-next.invariant.1,
      ))
]

pub returns-clause-sized : goal.returns-clause-sized
returns-clause-sized c = c.loop-next.invariant.0

pub returns-clause-gathers : goal.returns-clause-gathers
returns-clause-gathers c = c.loop-next.invariant.1.gathers

pub returns-clause-surrounded : goal.returns-clause-surrounded
returns-clause-surrounded c =
    Visiting-end c.args.size (position_in c.args.size c.args.stones.now) c.args.stone c.args.point c.neighbours.result c.loop-next.next-index
    c.args.group.now.points c.loop-next.group.points (rw c.neighbours.ensures.four c.loop-next-test.false) c.neighbours.ensures.each c.loop-next.invariant.1
