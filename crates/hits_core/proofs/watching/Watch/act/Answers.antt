use Rattle.std.proofs.Common.{ap, sym, subst, ◌∙◌, length}
use Rattle.std.proofs.lemmas.List.{with_items_is}
use Rattle.go_board.specs.Extent.{Extent}
use Rattle.go_board.specs.declared.points.Colour.TheVariants as colour
use Rattle.shape_core.specs.Field.{AreJoined}
use Rattle.shape_core.specs.KeptLists.{AreMarks}
use Rattle.hits_core.specs.Inner.Watching.{AreOpen}
use Rattle.hits_core.proofs.Moving.{KindsStay, open-moved, open-same}
use Rattle.hits_core.proofs.watching.Watch.act.Goals as goal

pub move_changed-requires-clause-first : goal.move_changed-requires-clause-first
move_changed-requires-clause-first c =
    ap length c.deref_mut.ensures.value ∙ c.requires.watched.1.black.rows ∙ ap (λ (s : Extent). s.rows) (sym c.apply.ensures.size)

pub move_changed-requires-clause-second : goal.move_changed-requires-clause-second
move_changed-requires-clause-second c =
    ap length c.deref_mut-2.ensures.value ∙ c.requires.watched.1.white.rows ∙ ap (λ (s : Extent). s.rows) (sym c.apply.ensures.size)

pub returns-clause-watched : goal.returns-clause-watched
returns-clause-watched c = λ words is.
    let watch = c.args.self.now in
    let before = watch.field in
    let after = c.apply.new.board in
    let now = c.move_changed.new.self in
    let moved = c.move_changed.ensures in
    let stay : KindsStay = (c.kinds_stay.ensures.canonical, c.kinds_stay.ensures.around) in
    let marks = subst (λ (s : Extent). AreMarks s after.changed) c.apply.ensures.size moved.marks in
    let black = with_items_is watch.black c.move_changed.new.first (c.move_changed.auto.first ∙ c.deref_mut.ensures.len) in
    let white = with_items_is watch.white c.move_changed.new.second (c.move_changed.auto.second ∙ c.deref_mut-2.ensures.len) in
    let first : AreJoined after.changed watch.black.items c.move_changed.new.first = rw c.deref_mut.ensures.value at moved.first in
    let second : AreJoined after.changed watch.white.items c.move_changed.new.second = rw c.deref_mut-2.ensures.value at moved.second in
    record {
      keeps = λ squares. is.keeps (sym c.apply.ensures.stays.kinds ∙ sym moved.kinds ∙ squares);
      black = open-same words after now colour.Black _ moved.board
          (subst (AreOpen words after colour.Black) (sym black) (open-moved stay words before after colour.Black watch.black.items c.move_changed.new.first is.keeps is.black c.apply.ensures.stays marks first));
      white = open-same words after now colour.White _ moved.board
          (subst (AreOpen words after colour.White) (sym white) (open-moved stay words before after colour.White watch.white.items c.move_changed.new.second is.keeps is.white c.apply.ensures.stays marks second));
    }
