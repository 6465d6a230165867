use Rattle.std.proofs.Common.{◌≡◌, ap, sym, subst, ◌∙◌, refl, rules}
use Rattle.go_board.specs.declared.points.Stone.TheVariants as stone
use Rattle.go_board.specs.Board.{position_of}
use Rattle.go_board.specs.declared.points.Colour.{Colour}
use Rattle.go_board.specs.declared.points.Colour.TheVariants as colour
use Rattle.go_record.specs.declared.actions.Action.TheVariants as deed
use Rattle.tally_core.specs.Walk.{shapes_of}
use Rattle.tally_core.specs.Inner.Standing.{CountsOccasions}
use Rattle.tally_core.specs.declared.game_walks.GameWalk.{GameWalk}
use Rattle.tally_core.proofs.OneOccasion.{IsOccasion, side-extended, side-seen, occasion-done, occasion-none, nothing-counted, black-counted, white-counted}
use Rattle.tally_core.proofs.game_walks.GameWalk.count.Goals as goal

pub returns-in_ok-count-in-Black-clause-counted : goal.returns-in_ok-count-in-Black-clause-counted
returns-in_ok-count-in-Black-clause-counted c =
    let walk = c.args.self.now in
    let field = walk.field in
    let position = position_of field.board in
    let at = c.in-Move.at in
    let e = c.in_ok-count-in-Black.ensures in
    let empty : position at ≡ stone.Empty = search rules in
    let after : GameWalk = record walk { meetings = c.count.new.meetings; black = c.count.new.self } in
    let counted : IsOccasion field colour.Black at walk.meetings after.meetings walk.black after.black =
    record { occasions = e.occasions; there = e.there; played = e.played; meets = e.meets } in
    black-counted walk after at _
    (occasion-done position c.args.action colour.Black at (c.in-Move.is ∙ ap (λ (mover : Colour). deed.Move mover at) c.in-Black.is) empty)
    c.requires.sides.white refl
    counted

pub returns-in_ok-count-in-Black-clause-sides : goal.returns-in_ok-count-in-Black-clause-sides
returns-in_ok-count-in-Black-clause-sides c =
    let walk = c.args.self.now in
    let field = walk.field in
    let position = position_of field.board in
    let e = c.in_ok-count-in-Black.ensures in
    record {
      black = side-seen field.kinds field.board.size position colour.Black (shapes_of c.count.new.meetings) c.count.new.self e.seen;
      white = side-extended field.kinds field.board.size position colour.White (shapes_of walk.meetings) (shapes_of c.count.new.meetings) walk.white e.meets.extends c.requires.sides.white;
    }

pub returns-in_ok-count-in-White-clause-counted : goal.returns-in_ok-count-in-White-clause-counted
returns-in_ok-count-in-White-clause-counted c =
    let walk = c.args.self.now in
    let field = walk.field in
    let position = position_of field.board in
    let at = c.in-Move.at in
    let e = c.in_ok-count-in-White.ensures in
    let empty : position at ≡ stone.Empty = search rules in
    let after : GameWalk = record walk { meetings = c.count-in-White.new.meetings; white = c.count-in-White.new.self } in
    let counted : IsOccasion field colour.White at walk.meetings after.meetings walk.white after.white =
    record { occasions = e.occasions; there = e.there; played = e.played; meets = e.meets } in
    white-counted walk after at _
    (occasion-done position c.args.action colour.White at (c.in-Move.is ∙ ap (λ (mover : Colour). deed.Move mover at) c.in-White.is) empty)
    c.requires.sides.black refl
    counted

pub returns-in_ok-count-in-White-clause-sides : goal.returns-in_ok-count-in-White-clause-sides
returns-in_ok-count-in-White-clause-sides c =
    let walk = c.args.self.now in
    let field = walk.field in
    let position = position_of field.board in
    let e = c.in_ok-count-in-White.ensures in
    record {
      white = side-seen field.kinds field.board.size position colour.White (shapes_of c.count-in-White.new.meetings) c.count-in-White.new.self e.seen;
      black = side-extended field.kinds field.board.size position colour.Black (shapes_of walk.meetings) (shapes_of c.count-in-White.new.meetings) walk.black e.meets.extends c.requires.sides.black;
    }

-- a move onto a stone is no occasion
pub returns-then-ne-clause-counted : goal.returns-then-ne-clause-counted
returns-then-ne-clause-counted c =
    let walk = c.args.self.now in
    let position = position_of walk.field.board in
    let at = c.in-Move.at in
    let full : position at ≡ stone.Empty → ⊥ = λ empty. search rules in
    subst (λ done. CountsOccasions done walk walk 0)
    (sym (occasion-none position c.args.action c.in-Move.colour at c.in-Move.is full))
    (nothing-counted walk)
