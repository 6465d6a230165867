use Rattle.std.proofs.Common.{◌≡◌, [], length, drop, get_or, refl, ap, sym, subst, ◌∙◌, arith, drop_of_length-le, All}
use Rattle.go_board.specs.Extent.{Extent, IsExtent}
use Rattle.go_board.specs.Board.{position_of}
use Rattle.go_board.specs.Position.{AreSame}
use Rattle.go_board.specs.declared.points.Colour.TheVariants as colour
use Rattle.go_board.specs.declared.points.Stone.TheVariants.{Empty}
use Rattle.go_record.specs.Actions.{IsActionOn}
use Rattle.go_record.specs.Replay.{Does, empty_position}
use Rattle.go_record.specs.declared.actions.Action.TheVariants.{Set}
use Rattle.shape_core.specs.Field.{Kept}
use Rattle.shape_core.specs.declared.words.Kinds.{Kinds}
use Rattle.tally_core.specs.Walk.{Walked, shapes_of}
use Rattle.tally_core.specs.Inner.Standing.{IsWalkOf}
use Rattle.tally_core.proofs.Beginning.{side-begins}
use Rattle.tally_core.proofs.Walked.{walk-of, among-of, small-of}
use Rattle.tally_core.proofs.Walking.{front-begins, front-steps, front-few, front-room, front-ends}
use Rattle.tally_core.proofs.walks.Walk.walk.Goals as goal

pub loop-action-init : goal.loop-action-init
loop-action-init c =
    let game = c.in_ok-game.game in
    let field = game.field in
    let e = c.in_ok-game.ensures in
    let none : game.meetings ≡ [] = e.meetings ∙ c.replace-meetings.ensures.value ∙ c.clear.ensures.empty in
    record {
      size = refl;
      kinds = refl;
      few = omega arith;
      black = omega (arith, e.black.occasions);
      white = omega (arith, e.white.occasions);
      sides = record {
        black = side-begins field.kinds field.board.size (position_of field.board) colour.Black (shapes_of game.meetings) game.black (ap shapes_of none) e.black;
        white = side-begins field.kinds field.board.size (position_of field.board) colour.White (shapes_of game.meetings) game.white (ap shapes_of none) e.white;
      };
      front = front-begins c.actions-actions.result.now game none e.black e.white;
    }

pub count-requires-clause-room : goal.count-requires-clause-room
count-requires-clause-room c =
    let all = c.actions-actions.result.now in
    let is = c.loop-action.invariant in
    let i = c.loop-action.action-index in
    let start = c.in_ok-game.game.field in
    let extent = subst IsExtent (sym (is.size ∙ ap (λ (f : Kept). f.board.size) c.in_ok-game.ensures.field)) c.in_ok-field.ensures.blank.board.extent in
    front-room all (drop i all) (position_of start.board) c.loop-action.game c.loop-action.moves i extent
    (omega (arith, c.if-actions-ge-MOST_ACTIONS.false)) c.loop-action-test.true is.few is.black is.white is.front

pub loop-action-preserved : goal.loop-action-preserved
loop-action-preserved c =
    let all = c.actions-actions.result.now in
    let i = c.loop-action.action-index in
    let none = Set (record { column = 0; row = 0 }) (record { column = 0; row = 0 }) Empty in
    let action = get_or all i none in
    let is = c.loop-action.invariant in
    let before = c.loop-action.game in
    let counted = c.count.new.self in
    let after = c.act.new.self in
    let same = c.count.ensures.field in
    let more = c.in_ok-moves.field-0 in
    let counts = c.in_ok-moves.ensures.counted in
    let keeps = c.act.ensures.counts in
    let size : after.field.board.size ≡ before.field.board.size = c.act.ensures.size ∙ ap (λ (f : Kept). f.board.size) same in
    let kinds : after.field.kinds ≡ before.field.kinds = c.act.ensures.kinds ∙ ap (λ (f : Kept). f.kinds) same in
    let does = subst (λ (f : Kept). Does f.board.size action (position_of f.board) (position_of after.field.board)) same c.act.ensures.does in
    record {
      size = size ∙ is.size;
      kinds = kinds ∙ is.kinds;
      few = omega (arith, counts.few, is.few);
      black = omega (arith, keeps.black_occasions, counts.few, counts.black, is.black);
      white = omega (arith, keeps.white_occasions, counts.few, counts.white, is.white);
      sides = c.act.ensures.sides;
      front = front-steps all i none (position_of c.in_ok-game.game.field.board) before counted after c.loop-action.moves more c.loop-action-test.true is.front counts keeps size kinds does;
    }

pub finish-requires-clause-few : goal.finish-requires-clause-few
finish-requires-clause-few c shape =
    let all = c.actions-actions.result.now in
    let is = c.loop-action.invariant in
    let extent = subst IsExtent (sym (is.size ∙ ap (λ (f : Kept). f.board.size) c.in_ok-game.ensures.field)) c.in_ok-field.ensures.blank.board.extent in
    omega (
      arith,
      c.if-actions-ge-MOST_ACTIONS.false,
      is.few,
      c.loop-action.auto.action-index-end,
      front-few all (drop c.loop-action.action-index all) (position_of c.in_ok-game.game.field.board) c.loop-action.game c.loop-action.moves shape extent is.front,
    )

pub returns-clause-walked : goal.returns-clause-walked
returns-clause-walked c =
    let all = c.actions-actions.result.now in
    let is = c.loop-action.invariant in
    let walk = c.loop-action.game in
    let begun = c.in_ok-game.ensures.field in
    let start = position_of c.in_ok-game.game.field.board in
    let walked = front-ends all (drop c.loop-action.action-index all) start walk c.finish.result c.loop-action.moves
    (drop_of_length-le all c.loop-action-test.false) c.finish.ensures.shapes c.finish.ensures.there c.finish.ensures.played is.front in
    let size : walk.field.board.size ≡ c.args.game_record.now.size = is.size ∙ ap (λ (f : Kept). f.board.size) begun ∙ c.in_ok-field.ensures.size ∙ c.size.ensures in
    let kinds : walk.field.kinds ≡ c.args.self.now.kinds = is.kinds ∙ ap (λ (f : Kept). f.kinds) begun ∙ c.in_ok-field.ensures.blank.keeps ∙ ap (λ (w : Walked). w.kinds) c.self.view_is in
    let empty : AreSame c.args.game_record.now.size start empty_position = subst (λ (f : Kept). AreSame c.args.game_record.now.size (position_of f.board) empty_position) (sym begun)
    (subst (λ (s : Extent). AreSame s (position_of c.in_ok-field.field.board) empty_position) (c.in_ok-field.ensures.size ∙ c.size.ensures) c.in_ok-field.ensures.blank.empty) in
    walk-of c.args.self.now.kinds c.args.game_record.now walk.field.board.size all start c.finish.result c.loop-action.moves size c.actions-actions.ensures.value empty
    (subst (λ (k : Kinds). IsWalkOf k walk.field.board.size all start c.finish.result c.loop-action.moves) kinds walked)

pub returns-clause-among : goal.returns-clause-among
returns-clause-among c =
    let all = c.actions-actions.result.now in
    let is = c.loop-action.invariant in
    let walk = c.loop-action.game in
    let begun = c.in_ok-game.ensures.field in
    let start = position_of c.in_ok-game.game.field.board in
    let walked = front-ends all (drop c.loop-action.action-index all) start walk c.finish.result c.loop-action.moves
    (drop_of_length-le all c.loop-action-test.false) c.finish.ensures.shapes c.finish.ensures.there c.finish.ensures.played is.front in
    let size : walk.field.board.size ≡ c.args.game_record.now.size = is.size ∙ ap (λ (f : Kept). f.board.size) begun ∙ c.in_ok-field.ensures.size ∙ c.size.ensures in
    let on = subst (λ (s : Extent). All (IsActionOn s) all) (sym size) (rw c.actions-actions.ensures.value c.actions-actions.ensures.on_board) in
    among-of walk.field.kinds walk.field.board.size all start c.finish.result c.loop-action.moves on walked

pub returns-clause-small : goal.returns-clause-small
returns-clause-small c =
    let all = c.actions-actions.result.now in
    let is = c.loop-action.invariant in
    let walk = c.loop-action.game in
    let begun = c.in_ok-game.ensures.field in
    let start = position_of c.in_ok-game.game.field.board in
    let walked = front-ends all (drop c.loop-action.action-index all) start walk c.finish.result c.loop-action.moves
    (drop_of_length-le all c.loop-action-test.false) c.finish.ensures.shapes c.finish.ensures.there c.finish.ensures.played is.front in
    let extent = subst IsExtent (sym (is.size ∙ ap (λ (f : Kept). f.board.size) begun)) c.in_ok-field.ensures.blank.board.extent in
    small-of walk.field.kinds walk.field.board.size all start c.finish.result c.loop-action.moves (length c.args.game_record.now.actions) extent
    (omega (arith, is.few, c.loop-action.auto.action-index-end, ap length c.actions-actions.ensures.value)) walked
