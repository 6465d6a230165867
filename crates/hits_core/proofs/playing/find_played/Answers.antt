use Rattle.std.proofs.Common.{◌≡◌, ◌∙◌, ◌+◌, drop, get_or, sym, subst, arith, drop_of_length-le}
use Rattle.go_board.specs.Board.{position_of}
use Rattle.go_board.specs.Extent.{Extent}
use Rattle.go_board.specs.Point.{IsOn}
use Rattle.go_board.specs.Position.{AreSame}
use Rattle.go_board.specs.declared.points.Stone.TheVariants.{Empty}
use Rattle.go_record.specs.Replay.{Does, empty_position}
use Rattle.go_record.specs.declared.actions.Action.TheVariants.{Set}
use Rattle.hits_core.specs.declared.searches.Sought.TheVariants as sought
use Rattle.hits_core.specs.Turns.{number_after}
use Rattle.hits_core.specs.Inner.Finding.{IsFront}
use Rattle.hits_core.proofs.Turning.{number-grows, front-begins, front-steps, front-ends}
use Rattle.hits_core.proofs.playing.find_played.Goals as goal

pub loop-action-init : goal.loop-action-init
loop-action-init c = record {
  size = c.in_ok-board.ensures.size ∙ c.size.ensures;
  few = omega arith;
  front = front-begins sought.Played c.args.wanted.now c.args.game.now c.actions-actions.result.now (position_of c.in_ok-board.board) c.args.found.now c.actions-actions.ensures.value;
}

pub loop-action-preserved : goal.loop-action-preserved
loop-action-preserved c =
    let game = c.args.game.now in
    let all = c.actions-actions.result.now in
    let i = c.loop-action.action-index in
    let none = Set (record { column = 0; row = 0 }) (record { column = 0; row = 0 }) Empty in
    let act = get_or all i none in
    let is = c.loop-action.invariant in
    let start = position_of c.in_ok-board.board in
    let before = position_of c.loop-action.board in
    let after = position_of c.apply.new.board in
    let number : c.number_after-number.result ≡ number_after c.loop-action.number act = c.number_after-number.ensures in
    record {
      size = c.apply.ensures.size ∙ is.size;
      few = omega (arith, number, number-grows c.loop-action.number act, is.few);
      front = subst (λ n. IsFront sought.Played c.args.wanted.now game start after (drop (i + 1) all) n c.args.found.now c.look.new.found) (sym number)
          (front-steps sought.Played c.args.wanted.now game all start before after i none c.loop-action.number c.args.found.now c.loop-action.found c.look.new.found c.loop-action-test.true
          (subst (λ (s : Extent). Does s act before after) is.size c.apply.ensures.does) is.front c.in_ok-look.ensures.grown);
    }

pub returns-clause-grown : goal.returns-clause-grown
returns-clause-grown c =
    let game = c.args.game.now in
    let all = c.actions-actions.result.now in
    let start = position_of c.in_ok-board.board in
    let empty : AreSame game.recorded.size start empty_position = λ q on. c.in_ok-board.ensures.empty q (subst (λ (s : Extent). IsOn s q) (sym c.size.ensures) on) in
    front-ends sought.Played c.args.wanted.now game start (position_of c.loop-action.board) _ c.loop-action.number c.args.found.now c.loop-action.found empty
    (drop_of_length-le all c.loop-action-test.false) c.loop-action.invariant.front
