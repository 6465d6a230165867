use Rattle.std.proofs.Common.{◌∙◌, length, subst, sym, ap}
use Rattle.std.proofs.lemmas.List.{with_items_is}
use Rattle.shape_core.specs.KeptLists.{AreMarks}
use Rattle.shape_core.proofs.Marking.{AreMarks-none}
use Rattle.shape_core.proofs.fields.Field.move_changed.Goals as goal

pub invariant_of-self : goal.invariant_of-self
invariant_of-self c =
    let is = c.self.invariant in
    let room = is.room in
    let kept = c.self.inside.kept in
    let same = c.move_marks.auto.changed ∙ c.deref_mut.ensures.len in
    record {
      is_board = is.is_board;
      same_size = is.same_size;
      room = record {
        extent = room.extent;
        squares_count = room.squares_count;
        diamonds_count = room.diamonds_count;
        squares_kind = room.squares_kind;
        diamonds_kind = room.diamonds_kind;
        marks =
            subst (AreMarks kept.size) (sym (with_items_is kept.changed c.move_marks.new.changed same))
            (AreMarks-none kept.size c.move_marks.new.changed (c.move_marks.auto.changed ∙ ap length c.deref_mut.ensures.value ∙ room.marks.rows) c.move_marks.ensures.taken);
      };
      follow = record { squares_follow = is.follow.squares_follow; diamonds_follow = is.follow.diamonds_follow };
      are_empty = is.are_empty;
    }
