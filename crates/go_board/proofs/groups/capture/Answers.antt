-- After each neighbour the stones captured so far are gone.
use Rattle.std.proofs.Common.{◌≢◌, ◌∙◌, ◌<◌, ◌≤◌, ap, subst, sym, length}
use Rattle.go_board.specs.declared.points.Stone.{Stone}
use Rattle.go_board.specs.declared.points.Stone.TheVariants as kind
use Rattle.go_board.specs.Position.{position_in}
use Rattle.go_board.specs.Play.{stone_of}
use Rattle.go_board.proofs.Visits.{neighbour_at}
use Rattle.go_board.proofs.Capturing.{stone_solid, Capturing-more, Capturing-skip, Capturing-gone, Capturing-listed}
use Rattle.go_board.proofs.groups.capture.Goals as goal
use Rattle.go_board.proofs.groups.capture.Goals.{in-Some, in_default}

pub loop-next-preserved : goal.loop-next-preserved
loop-next-preserved c = elim c.match-next.branch [
  | in-Some w ↦ (
      let in' : c.loop-next.next-index < length c.neighbours.result = rw c.neighbours.ensures.four c.loop-next-test.true in
      let found = neighbour_at c.args.size c.args.point c.neighbours.result c.loop-next.next-index w.in-Some.next in' c.neighbours.ensures.only w.in-Some.is in
      let solid : c.stone-opponent.result ≢ kind.Empty =
      subst (λ (s : Stone). s ≢ kind.Empty) (sym c.stone-opponent.ensures) (stone_solid c.other.result) in
      rw (w.stones-is, w.group-is, w.removed-is) (
        w.remove_if_dead.ensures.group_sized,
        w.remove_if_dead.ensures.removed_sized,
        Capturing-more c.args.size (position_in c.args.size c.args.stones.now) c.stone-opponent.result c.neighbours.result c.loop-next.next-index
            (position_in c.args.size c.loop-next.stones) (position_in c.args.size w.remove_if_dead.new.stones)
            c.loop-next.removed.points w.remove_if_dead.new.removed.points w.in-Some.next solid found.0 in' w.in-Some.is
            w.remove_if_dead.ensures.stones w.remove_if_dead.ensures.removed c.loop-next.invariant.2,
      ))
  | in_default w ↦ (
      let in' : c.loop-next.next-index < length c.neighbours.result = rw c.neighbours.ensures.four c.loop-next-test.true in
      rw (w.stones-is, w.group-is, w.removed-is) (
        c.loop-next.invariant.0,
        c.loop-next.invariant.1,
        Capturing-skip c.args.size (position_in c.args.size c.args.stones.now) c.stone-opponent.result c.neighbours.result c.loop-next.next-index
            (position_in c.args.size c.loop-next.stones) c.loop-next.removed.points in' w.in_default.is c.loop-next.invariant.2,
      ))
]

pub returns-clause-stones : goal.returns-clause-stones
returns-clause-stones c =
    let past : length c.neighbours.result ≤ c.loop-next.next-index = rw c.neighbours.ensures.four c.loop-next-test.false in
    Capturing-gone c.args.size (position_in c.args.size c.args.stones.now) c.args.mover c.args.point c.neighbours.result
    c.neighbours.ensures.only c.neighbours.ensures.each c.stone-opponent.result (c.stone-opponent.ensures ∙ ap stone_of c.other.ensures)
    c.loop-next.next-index past (position_in c.args.size c.loop-next.stones) c.loop-next.removed.points c.loop-next.invariant.2

pub returns-clause-removed : goal.returns-clause-removed
returns-clause-removed c =
    let past : length c.neighbours.result ≤ c.loop-next.next-index = rw c.neighbours.ensures.four c.loop-next-test.false in
    Capturing-listed c.args.size (position_in c.args.size c.args.stones.now) c.args.mover c.args.point c.neighbours.result
    c.neighbours.ensures.only c.neighbours.ensures.each c.stone-opponent.result (c.stone-opponent.ensures ∙ ap stone_of c.other.ensures)
    c.loop-next.next-index past (position_in c.args.size c.loop-next.stones) c.loop-next.removed.points c.loop-next.invariant.2
