use Rattle.std.proofs.Common.{◌≡◌, ◌∙◌, sym, ap, subst}
use Rattle.go_board.specs.Position.{placed}
use Rattle.go_board.specs.Board.{position_of}
use Rattle.shape_core.specs.Inner.Keeping.{Follows}
use Rattle.shape_core.specs.declared.kept.KeptWords.{KeptWords}
use Rattle.go_board.specs.Extent.{Extent}
use Rattle.go_board.specs.Point.{IsOn}
use Rattle.shape_core.specs.Inner.EmptyPoints.{AreEmpty}
use Rattle.shape_core.proofs.EmptyPoints.{AreEmpty-agree}
use Rattle.shape_core.proofs.Agreeing.{Follows-agree}
use Rattle.shape_core.proofs.Playing.{Agree-at, marks_changes}
use Rattle.shape_core.proofs.fields.Field.set.Goals as goal

following : (c : goal.After-put) → Follows c.change.new.self (position_of c.set.new.self)
following c =
    let board = c.self.inside.board in
    let kept = c.change.new.self in
    let same : board.size ≡ kept.size = sym (c.change.ensures.change.size ∙ c.self.invariant.same_size) in
    let stone = placed (position_of board) c.args.point c.args.stone in
    Follows-agree kept stone (position_of c.set.new.self)
    (Agree-at board.size kept.size stone (position_of c.set.new.self) same (λ r on. sym (c.set.ensures.sets.position r on)))
    (c.change.ensures.follow (position_of board) c.self.invariant.follow)

on_board : (c : goal.After-put) → IsOn c.self.inside.board.size c.args.point
on_board c = rw (sym c.self.view_is) at c.requires

pub put-requires : goal.put-requires
put-requires c =
    let is = c.self.invariant in
    (c.self.inside.board.size, record { extent = is.is_board.extent; count = is.are_empty.marks.rows }, rw (sym c.self.view_is) at c.requires)

pub invariant_of-self : goal.invariant_of-self
invariant_of-self c = record {
  is_board = c.set.ensures.board;
  same_size = c.change.ensures.change.size ∙ c.self.invariant.same_size ∙ sym c.set.ensures.sets.size;
  room = c.change.ensures.room;
  follow = following c;
  are_empty = subst (λ (size : Extent). AreEmpty size (position_of c.set.new.self) c.put.new.self.rows.items) (sym c.set.ensures.sets.size)
      (AreEmpty-agree c.self.inside.board.size (placed (position_of c.self.inside.board) c.args.point c.args.stone) (position_of c.set.new.self) c.put.new.self.rows.items
      (λ r on. sym (c.set.ensures.sets.position r on))
      (c.put.ensures.follow c.self.inside.board.size (position_of c.self.inside.board) c.self.invariant.is_board.extent (on_board c) c.self.invariant.are_empty));
}

pub returns-clause-marks : goal.returns-clause-marks
returns-clause-marks c =
    rw (sym c.self.view_is)
    (marks_changes c.self.inside.board c.set.new.self c.self.inside.kept c.change.new.self c.self.invariant.same_size c.self.invariant.follow (following c) c.change.ensures.change)

pub returns-clause-near : goal.returns-clause-near
returns-clause-near c = rw (sym c.self.view_is) c.change.ensures.near

pub returns-clause-still : goal.returns-clause-still
returns-clause-still c =
    rw (sym c.self.view_is)
    (λ stands. ap (λ (kept : KeptWords). kept.changed.items) (c.change.ensures.still (position_of c.self.inside.board) c.self.invariant.follow stands))
