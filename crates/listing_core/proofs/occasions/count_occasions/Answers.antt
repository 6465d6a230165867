use Rattle.std.proofs.Common.{◌∙◌, ◌+◌, get_or, refl, sym, subst, arith, drop_of_length-le}
use Rattle.go_board.specs.Board.{position_of}
use Rattle.go_board.specs.Extent.{Extent}
use Rattle.go_board.specs.declared.points.Stone.TheVariants.{Empty}
use Rattle.go_record.specs.Replay.{Does}
use Rattle.go_record.specs.declared.actions.Action.TheVariants.{Set}
use Rattle.listing_core.proofs.Fronts.{completes-begins, completes-steps, completes-ends, Completes}
use Rattle.listing_core.proofs.occasions.count_occasions.Goals as goal

pub loop-action-init : goal.loop-action-init
loop-action-init c = record {
  size = refl;
  few = omega arith;
  front = completes-begins c.args.board.now.size c.args.actions.now (position_of c.args.board.now);
}

pub loop-action-preserved : goal.loop-action-preserved
loop-action-preserved c =
    let all = c.args.actions.now in
    let i = c.loop-action.action-index in
    let none = Set (record { column = 0; row = 0 }) (record { column = 0; row = 0 }) Empty in
    let is = c.loop-action.invariant in
    let size = c.args.board.now.size in
    let before = position_of c.loop-action.board in
    let after = position_of c.apply.new.board in
    record {
      size = c.apply.ensures.size ∙ is.size;
      few = omega (arith, is.few, c.occasions_of-occasions.ensures.few);
      front = subst (λ n. Completes size all (position_of c.args.board.now) (i + 1) after (c.loop-action.occasions + n)) (sym c.occasions_of-occasions.ensures.number)
          (completes-steps size all (position_of c.args.board.now) i none before after c.loop-action.occasions c.loop-action-test.true
          (subst (λ (s : Extent). Does s (get_or all i none) before after) is.size c.apply.ensures.does) is.front);
    }

pub returns : goal.returns
returns c =
    let all = c.args.actions.now in
    completes-ends c.args.board.now.size all (position_of c.args.board.now) c.loop-action.action-index (position_of c.loop-action.board) c.loop-action.occasions
    (drop_of_length-le all c.loop-action-test.false) c.loop-action.invariant.front
