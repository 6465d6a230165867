use Rattle.std.proofs.Common.{◌≡◌, ◌∙◌, ◌+◌, drop, get_or, ap, sym, subst, arith, drop_of_length-le}
use Rattle.go_board.specs.Board.{position_of}
use Rattle.go_board.specs.Extent.{Extent}
use Rattle.go_board.specs.declared.points.Stone.TheVariants.{Empty}
use Rattle.go_record.specs.Replay.{Does}
use Rattle.go_record.specs.declared.actions.Action.TheVariants.{Set}
use Rattle.shape_core.specs.Field.{Kept}
use Rattle.hits_core.specs.declared.searches.Sought.TheVariants as sought
use Rattle.hits_core.specs.Turns.{number_after}
use Rattle.hits_core.specs.Inner.Finding.{IsFront}
use Rattle.hits_core.proofs.Turning.{number-grows, front-begins, front-steps, front-ends}
use Rattle.hits_core.proofs.watching.find_there.Goals as goal

pub loop-action-init : goal.loop-action-init
loop-action-init c = record {
  size = c.in_ok-watch.ensures.begun.sized;
  watched = c.in_ok-watch.ensures.watched;
  few = omega arith;
  front = front-begins sought.There c.args.wanted.now c.args.game.now c.actions-actions.result.now (position_of c.in_ok-watch.watch.field.board) c.args.found.now c.actions-actions.ensures.value;
}

pub loop-action-preserved : goal.loop-action-preserved
loop-action-preserved c =
    let game = c.args.game.now in
    let all = c.actions-actions.result.now in
    let i = c.loop-action.action-index in
    let none = Set (record { column = 0; row = 0 }) (record { column = 0; row = 0 }) Empty in
    let act = get_or all i none in
    let is = c.loop-action.invariant in
    let start = position_of c.in_ok-watch.watch.field.board in
    let before = position_of c.loop-action.watch.field.board in
    let after = position_of c.act.new.self.field.board in
    let same = c.in_ok-look.ensures.field in
    let number : c.number_after-number.result ≡ number_after c.loop-action.number act = c.number_after-number.ensures in
    record {
      size = c.act.ensures.size ∙ ap (λ (f : Kept). f.board.size) same ∙ is.size;
      watched = c.act.ensures.watched c.args.wanted.now c.in_ok-look.ensures.watched;
      few = omega (arith, number, number-grows c.loop-action.number act, is.few);
      front = subst (λ n. IsFront sought.There c.args.wanted.now game start after (drop (i + 1) all) n c.args.found.now c.look.new.found) (sym number)
          (front-steps sought.There c.args.wanted.now game all start before after i none c.loop-action.number c.args.found.now c.loop-action.found c.look.new.found c.loop-action-test.true
          (subst (λ (s : Extent). Does s act before after) is.size
          (subst (λ (f : Kept). Does f.board.size act (position_of f.board) after) same c.act.ensures.does)) is.front c.in_ok-look.ensures.grown);
    }

pub returns-clause-grown : goal.returns-clause-grown
returns-clause-grown c =
    front-ends sought.There c.args.wanted.now c.args.game.now (position_of c.in_ok-watch.watch.field.board) (position_of c.loop-action.watch.field.board) _ c.loop-action.number c.args.found.now c.loop-action.found
    c.in_ok-watch.ensures.begun.empty (drop_of_length-le c.actions-actions.result.now c.loop-action-test.false) c.loop-action.invariant.front
