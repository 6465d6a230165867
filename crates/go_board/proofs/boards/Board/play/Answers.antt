-- The steps of the move, in the order in which the code takes them.
use Rattle.std.proofs.Common.{◌≡◌, ◌≢◌, ◌∙◌, ap, sym, length, List, arith}
use Rattle.std.proofs.lemmas.List.{take_at}
use Rattle.std.proofs.lemmas.Grind.{common_steps}
use Rattle.go_board.specs.declared.points.Stone.{Stone}
use Rattle.go_board.specs.Position.{position_in, placed, AreSame}
use Rattle.go_board.specs.Play.{stone_of}
use Rattle.go_board.proofs.Agreement.{write_places}
use Rattle.go_board.proofs.Moves.{Steps, Steps-capture, Steps-quiet, Steps-plays, Steps-lists, Steps-taken, Steps-own, Steps-kept}
use Rattle.go_board.proofs.boards.Board.play.Goals as goal
use Rattle.go_board.proofs.boards.Board.play.Goals.{then-taken-eq0, else-taken-eq0}

steps : (c : goal.After-len) → Steps c.self.inside.size (position_in c.self.inside.size c.self.inside.stones.items) c.args.colour c.args.point
    (position_in c.self.inside.size c.deref_mut.result.now) (position_in c.self.inside.size c.capture.new.stones)
    (position_in c.if-taken-eq0.self-inside.size c.if-taken-eq0.self-inside.stones.items)
    c.capture.new.removed.points c.if-taken-eq0.self-inside.removed.points
steps c =
    let agree : AreSame c.self.inside.size (position_in c.self.inside.size c.deref_mut.result.now)
    (placed (position_in c.self.inside.size c.self.inside.stones.items) c.args.point (stone_of c.args.colour)) =
    rw (c.deref_mut.ensures.value, c.index.ensures.value, c.stone.ensures)
    (write_places c.self.inside.size c.self.inside.stones.items c.args.point (stone_of c.args.colour) (rw (← c.self.view_is) at c.requires) c.self.invariant.whole) in
    let full : length c.capture.new.stones ≡ c.self.inside.stones.len = c.capture.auto.stones ∙ c.deref_mut.ensures.len in
    elim c.if-taken-eq0.branch [
      | then-taken-eq0 w ↦ (
          let none : length c.capture.new.removed.points ≡ 0 = sym c.len-taken.ensures.value ∙ w.if-taken-eq0.true in
          let left : w.deref_mut-then-taken-eq0.result.now ≡ c.capture.new.stones = w.deref_mut-then-taken-eq0.ensures.value ∙ rw take_at in
          let full' : length w.remove_if_dead.new.stones ≡ c.self.inside.stones.len = w.remove_if_dead.auto.stones ∙ ap (λ (l : List Stone). length l) left ∙ full in
          rw (w.self-inside-is, take_at w.remove_if_dead.new.stones _ c.self.inside.stones.len full')
          (Steps-quiet c.self.inside.size (position_in c.self.inside.size c.self.inside.stones.items) c.args.colour c.args.point
          (position_in c.self.inside.size c.deref_mut.result.now) (position_in c.self.inside.size c.capture.new.stones)
          c.capture.new.removed.points (rw (← c.self.view_is) at c.requires) agree c.capture.ensures.stones c.capture.ensures.removed
          (position_in c.self.inside.size w.remove_if_dead.new.stones) w.remove_if_dead.new.removed.points none
          (rw (left, w.stone-own.ensures) at w.remove_if_dead.ensures.stones)
          (rw (left, w.stone-own.ensures) at w.remove_if_dead.ensures.removed)))
      | else-taken-eq0 w ↦ (
          let some : length c.capture.new.removed.points ≢ 0 = λ e. w.if-taken-eq0.false (c.len-taken.ensures.value ∙ e) in
          rw (w.self-inside-is, take_at)
          (Steps-capture c.self.inside.size (position_in c.self.inside.size c.self.inside.stones.items) c.args.colour c.args.point
          (position_in c.self.inside.size c.deref_mut.result.now) (position_in c.self.inside.size c.capture.new.stones)
          c.capture.new.removed.points (rw (← c.self.view_is) at c.requires) agree c.capture.ensures.stones c.capture.ensures.removed some))
    ]

pub returns-clause-plays : goal.returns-clause-plays
returns-clause-plays c =
    let did = steps c in
    rw (← c.self.view_is) (record {
      size = grind (arith, common_steps);
      position = Steps-plays _ _ _ _ _ _ _ _ _ did;
      removed = Steps-lists _ _ _ _ _ _ _ _ _ did c.if-taken-eq0.self-inside.removed.size c.len.ensures.gathered;
      kept = Steps-kept _ _ _ _ _ _ _ _ _ did;
      all = grind (arith, common_steps);
      taken = c.len-taken.ensures.value ∙ Steps-taken _ _ _ _ _ _ _ _ _ did;
      own_lost = rw (c.len.ensures.value, c.len-taken.ensures.value) (Steps-own _ _ _ _ _ _ _ _ _ did);
      one = grind (arith, common_steps);
    })
