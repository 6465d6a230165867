use Rattle.std.proofs.Common.{◌≡◌, ◌∙◌, [], ◌∷◌, ◌++◌, All, sym, ap, ap₂, subst}
use Rattle.std.proofs.lemmas.List.Elements.{Contains-append_left, Contains-append_right}
use Rattle.go_board.specs.Extent.{Extent}
use Rattle.go_board.specs.Point.{IsOn}
use Rattle.go_board.specs.Position.{placed}
use Rattle.go_board.specs.Play.{stone_of}
use Rattle.go_board.specs.Board.{position_of}
use Rattle.shape_core.specs.Inner.KeptLists.{emptied}
use Rattle.shape_core.specs.Inner.Keeping.{Follows, Changes}
use Rattle.shape_core.specs.declared.kept.KeptWords.{KeptWords}
use Rattle.shape_core.specs.Field.{MarksNear, reach_of}
use Rattle.shape_core.proofs.Nearness.{MarksNear-twice}
use Rattle.shape_core.specs.Inner.EmptyPoints.{AreEmpty}
use Rattle.shape_core.proofs.EmptyPoints.{AreEmpty-agree}
use Rattle.shape_core.proofs.Agreeing.{Follows-agree}
use Rattle.shape_core.proofs.Playing.{Agree-at, Changes-twice, marks_changes}
use Rattle.shape_core.proofs.Removing.{removed_is}
use Rattle.shape_core.proofs.fields.Field.play.Goals as goal

-- the stone and then the removed points
change : (c : goal.After-empty-2) → Changes c.self.inside.kept c.empty.new.self
change c = Changes-twice c.self.inside.kept c.change.new.self c.empty.new.self c.change.ensures.change c.empty.ensures.change

same_size : (c : goal.After-empty-2) → c.empty.new.self.size ≡ c.self.inside.board.size
same_size c = (change c).size ∙ c.self.invariant.same_size

following : (c : goal.After-empty-2) → Follows c.empty.new.self (position_of c.play-played.new.self)
following c =
    let board = c.self.inside.board in
    let kept = c.empty.new.self in
    let old = position_of board in
    let new = position_of c.play-played.new.self in
    let point = c.args.point in
    let removed = c.play-played.new.self.removed in
    let stood = placed old point (stone_of c.args.colour) in
    let same : emptied (placed old point c.stone.result) c.removed.result.now ≡ emptied stood removed =
    ap₂ (λ s points. emptied (placed old point s) points) c.stone.ensures c.removed.ensures.value in
    Follows-agree kept (emptied stood removed) new
    (Agree-at board.size kept.size (emptied stood removed) new (sym (same_size c)) (removed_is board.size old c.args.colour point new removed c.play-played.ensures.plays.position c.play-played.ensures.plays.removed))
    (subst (Follows kept) same (c.empty.ensures.follow (placed old point c.stone.result) (c.change.ensures.follow old c.self.invariant.follow)))

pub put-requires : goal.put-requires
put-requires c =
    let is = c.self.invariant in
    (c.self.inside.board.size, record { extent = is.is_board.extent; count = is.are_empty.marks.rows }, rw (sym c.self.view_is) at c.requires)

pub empty-requires-2 : goal.empty-requires-2
empty-requires-2 c =
    let is = c.self.invariant in (
      c.self.inside.board.size,
      record { extent = is.is_board.extent; count = c.put.ensures.rows ∙ is.are_empty.marks.rows },
      subst (All (IsOn c.self.inside.board.size)) (sym c.removed-2.ensures.value)
          (subst (λ (size : Extent). All (IsOn size) c.play-played.new.self.removed) c.play-played.ensures.plays.size c.play-played.ensures.board.removed.on_board),
    )

pub invariant_of-self : goal.invariant_of-self
invariant_of-self c = record {
  is_board = c.play-played.ensures.board;
  same_size = same_size c ∙ sym c.play-played.ensures.plays.size;
  room = c.empty.ensures.room;
  follow = following c;
  are_empty =
      let board = c.self.inside.board in
      let old = position_of board in
      let new = position_of c.play-played.new.self in
      let removed = c.play-played.new.self.removed in
      let on = rw (sym c.self.view_is) at c.requires in
      let put = c.put.ensures.follow board.size old c.self.invariant.is_board.extent on c.self.invariant.are_empty in
      let emptied_all = c.empty-2.ensures board.size (placed old c.args.point c.stone-2.result) c.self.invariant.is_board.extent
      (subst (All (IsOn c.self.inside.board.size)) (sym c.removed-2.ensures.value)
      (subst (λ (size : Extent). All (IsOn size) c.play-played.new.self.removed) c.play-played.ensures.plays.size c.play-played.ensures.board.removed.on_board)) put in
      let same : emptied (placed old c.args.point c.stone-2.result) c.removed-2.result.now ≡ emptied (placed old c.args.point (stone_of c.args.colour)) removed =
      ap₂ (λ s points. emptied (placed old c.args.point s) points) c.stone-2.ensures c.removed-2.ensures.value in
      subst (λ (size : Extent). AreEmpty size new c.empty-2.new.self.rows.items) (sym c.play-played.ensures.plays.size)
      (AreEmpty-agree board.size (emptied (placed old c.args.point (stone_of c.args.colour)) removed) new c.empty-2.new.self.rows.items
      (removed_is board.size old c.args.colour c.args.point new removed c.play-played.ensures.plays.position c.play-played.ensures.plays.removed)
      (subst (λ position. AreEmpty board.size position c.empty-2.new.self.rows.items) same emptied_all));
}

pub returns-clause-marks : goal.returns-clause-marks
returns-clause-marks c =
    rw (sym c.self.view_is)
    (marks_changes c.self.inside.board c.play-played.new.self c.self.inside.kept c.empty.new.self c.self.invariant.same_size c.self.invariant.follow (following c) (change c))

-- the marks that came with the removed points
near_removed : (c : goal.After-empty-2) → MarksNear (reach_of c.self.inside.kept.kinds) c.play-played.new.self.removed c.change.new.self.changed.items c.empty.new.self.changed.items
near_removed c = rw (c.change.ensures.change.kinds, c.removed.ensures.value) at c.empty.ensures.near

pub returns-clause-near : goal.returns-clause-near
returns-clause-near c =
    let kept = c.self.inside.kept in
    let one = c.args.point ∷ [] in
    let removed = c.play-played.new.self.removed in
    rw (sym c.self.view_is)
    (MarksNear-twice (reach_of kept.kinds) one removed (one ++ removed) kept.changed.items c.change.new.self.changed.items c.empty.new.self.changed.items
    (λ p held. Contains-append_left one removed p held) (λ p held. Contains-append_right one removed p held) c.change.ensures.near (near_removed c))

pub returns-clause-still : goal.returns-clause-still
returns-clause-still c =
    let kept = c.self.inside.kept in
    let removed = c.play-played.new.self.removed in
    rw (sym c.self.view_is)
    (λ stands. subst (λ before. MarksNear (reach_of kept.kinds) removed before c.empty.new.self.changed.items)
    (ap (λ (words : KeptWords). words.changed.items) (c.change.ensures.still (position_of c.self.inside.board) c.self.invariant.follow (stands ∙ sym c.stone.ensures)))
    (near_removed c))
