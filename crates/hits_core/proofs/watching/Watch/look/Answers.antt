use Rattle.std.proofs.Common.{◌≡◌, ◌∙◌, map, ap, sym, subst, rules}
use Rattle.std.specs.List.{flat_map}
use Rattle.std.proofs.lemmas.Result.{on_ok_weaker}
use Rattle.go_board.specs.Board.{position_of}
use Rattle.go_board.specs.declared.points.Stone.TheVariants as stone
use Rattle.go_record.specs.declared.actions.Action.{Action}
use Rattle.tally_core.specs.Counts.{points_of}
use Rattle.tally_core.specs.Occasions.{is_empty, occasion_of}
use Rattle.hits_core.specs.declared.looking.Moment.{Moment}
use Rattle.hits_core.specs.declared.searches.Sought.TheVariants as sought
use Rattle.hits_core.specs.Hits.{hits_of_turn}
use Rattle.hits_core.specs.Turns.{turn_of}
use Rattle.hits_core.specs.Inner.Watching.{hits_over}
use Rattle.hits_core.specs.Inner.Finding.{GrowsBy}
use Rattle.hits_core.proofs.Turning.{there-move}
use Rattle.hits_core.proofs.watching.Watch.look.Goals as goal

pub returns-in-Black-clause-grown : goal.returns-in-Black-clause-grown
returns-in-Black-clause-grown c =
    let words = c.args.wanted.now in
    let game = c.args.game.now in
    let field = c.args.self.now.field in
    let empty : position_of field.board c.in-Move.at ≡ stone.Empty = search rules in
    let same = ap (λ (m : Moment). hits_over words field m (points_of field.board.size)) c.of-moment.ensures
    ∙ there-move words game field c.args.number c.in-Move.colour c.in-Move.at c.requires.size (ap is_empty empty)
    ∙ ap (λ (a : Action). flat_map (hits_of_turn sought.There words game) (map (turn_of c.args.number) (occasion_of (position_of field.board) a))) (sym c.in-Move.is) in
    on_ok_weaker c.see.result (λ grown. subst (GrowsBy c.args.found.now c.see.new.found) same grown) c.see.ensures.grown

pub returns-in-White-clause-grown : goal.returns-in-White-clause-grown
returns-in-White-clause-grown c =
    let words = c.args.wanted.now in
    let game = c.args.game.now in
    let field = c.args.self.now.field in
    let empty : position_of field.board c.in-Move.at ≡ stone.Empty = search rules in
    let same = ap (λ (m : Moment). hits_over words field m (points_of field.board.size)) c.of-moment.ensures
    ∙ there-move words game field c.args.number c.in-Move.colour c.in-Move.at c.requires.size (ap is_empty empty)
    ∙ ap (λ (a : Action). flat_map (hits_of_turn sought.There words game) (map (turn_of c.args.number) (occasion_of (position_of field.board) a))) (sym c.in-Move.is) in
    on_ok_weaker c.see-in-White.result (λ grown. subst (GrowsBy c.args.found.now c.see-in-White.new.found) same grown) c.see-in-White.ensures.grown
