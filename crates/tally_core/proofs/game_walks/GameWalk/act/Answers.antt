use Rattle.std.proofs.Common.{◌≡◌, ap, sym, subst, ◌∙◌, refl}
use Rattle.std.specs.Vec.{with_items}
use Rattle.std.proofs.lemmas.List.{with_items_is}
use Rattle.go_board.specs.Extent.{Extent}
use Rattle.go_board.specs.Board.{Stones, position_of}
use Rattle.go_board.specs.declared.points.Colour.{Colour}
use Rattle.go_board.specs.declared.points.Colour.TheVariants as colour
use Rattle.shape_core.specs.Field.{AreJoined}
use Rattle.shape_core.specs.KeptLists.{AreMarks}
use Rattle.shape_core.specs.declared.words.Kinds.{Kinds}
use Rattle.tally_core.specs.Walk.{shapes_of}
use Rattle.tally_core.specs.Inner.Standing.{IsSide}
use Rattle.tally_core.specs.declared.sides.Side.{Side}
use Rattle.tally_core.proofs.Moved.{side-moved}
use Rattle.tally_core.proofs.game_walks.GameWalk.act.Goals as goal

pub returns-clause-sides : goal.returns-clause-sides
returns-clause-sides c =
    let walk = c.args.self.now in
    let before = walk.field in
    let after = c.apply.new.board in
    let shapes = shapes_of walk.meetings in
    let is = c.requires.sides in
    let moved = c.move_changed.ensures in
    let marks = subst (λ (s : Extent). AreMarks s after.changed) c.apply.ensures.size moved.marks in
    let black = with_items_is walk.black.changed c.move_changed.new.first (c.move_changed.auto.first ∙ c.deref_mut.ensures.len) in
    let white = with_items_is walk.white.changed c.move_changed.new.second (c.move_changed.auto.second ∙ c.deref_mut-2.ensures.len) in
    let first : AreJoined after.changed walk.black.changed.items c.move_changed.new.first = rw c.deref_mut.ensures.value at moved.first in
    let second : AreJoined after.changed walk.white.changed.items c.move_changed.new.second = rw c.deref_mut-2.ensures.value at moved.second in
    let now_black : Side = record walk.black { changed = with_items walk.black.changed c.move_changed.new.first } in
    let now_white : Side = record walk.white { changed = with_items walk.white.changed c.move_changed.new.second } in
    let now = c.move_changed.new.self in
    let kinds : now.kinds ≡ before.kinds = moved.kinds ∙ c.apply.ensures.stays.kinds in
    let size : now.board.size ≡ before.board.size = ap (λ (b : Stones). b.size) moved.board ∙ c.apply.ensures.size in
    let of_field : (mover : Colour) (side : Side) → IsSide before.kinds before.board.size (position_of after.board) mover shapes side → IsSide now.kinds now.board.size (position_of now.board) mover shapes side =
    λ mover side is_side.
    subst (λ (k : Kinds). IsSide k now.board.size (position_of now.board) mover shapes side) (sym kinds)
    (subst (λ (s : Extent). IsSide before.kinds s (position_of now.board) mover shapes side) (sym size)
    (subst (λ (board : Stones). IsSide before.kinds before.board.size (position_of board) mover shapes side) (sym moved.board) is_side)) in
    record {
      black = of_field colour.Black now_black
          (side-moved before after colour.Black shapes walk.black now_black is.black c.apply.ensures.stays marks refl refl refl (subst (AreJoined after.changed walk.black.changed.items) (sym black) first));
      white = of_field colour.White now_white
          (side-moved before after colour.White shapes walk.white now_white is.white c.apply.ensures.stays marks refl refl refl (subst (AreJoined after.changed walk.white.changed.items) (sym white) second));
    }
