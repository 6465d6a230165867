use Rattle.std.proofs.Common.{◌≡◌, ◌∙◌, map, ap, sym, subst, rules}
use Rattle.std.specs.List.{flat_map}
use Rattle.std.proofs.lemmas.Result.{on_ok_weaker}
use Rattle.go_board.specs.Board.{position_of}
use Rattle.go_board.specs.declared.points.Stone.TheVariants as stone
use Rattle.go_record.specs.declared.actions.Action.{Action}
use Rattle.tally_core.specs.Occasions.{is_empty, occasion_of}
use Rattle.hits_core.specs.declared.looking.Moment.{Moment}
use Rattle.hits_core.specs.declared.searches.Sought.TheVariants as sought
use Rattle.hits_core.specs.Hits.{hits_of_turn}
use Rattle.hits_core.specs.Turns.{turn_of}
use Rattle.hits_core.specs.Inner.Finding.{hit_in, moment_on, patterns_in, GrowsBy}
use Rattle.hits_core.proofs.Turning.{played-move}
use Rattle.hits_core.proofs.playing.look.Goals as goal

pub returns-clause-grown : goal.returns-clause-grown
returns-clause-grown c =
    let words = c.args.wanted.now in
    let game = c.args.game.now in
    let position = position_of c.args.board.now in
    let empty : position c.in-Move.at ≡ stone.Empty = search rules in
    let moment = moment_on game c.args.number c.in-Move.colour in
    let same = ap (λ (m : Moment). map (hit_in m c.in-Move.at) (patterns_in c.see_board.result)) c.of-moment.ensures
    ∙ ap (map (hit_in moment c.in-Move.at)) c.see_board.ensures
    ∙ played-move words game position c.args.board.now.size c.args.number c.in-Move.colour c.in-Move.at c.requires.size (ap is_empty empty)
    ∙ ap (λ (a : Action). flat_map (hits_of_turn sought.Played words game) (map (turn_of c.args.number) (occasion_of position a))) (sym c.in-Move.is) in
    on_ok_weaker c.push_sight.result (λ grown. subst (GrowsBy c.args.found.now c.push_sight.new.found) same grown) c.push_sight.ensures.grown
