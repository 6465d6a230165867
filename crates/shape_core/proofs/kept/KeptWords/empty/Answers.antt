use Rattle.std.proofs.Common.{[], ◌∷◌, ◌+◌, inl, get_or, take, sym, ap, subst, ◌∙◌, arith}
use Rattle.std.proofs.lemmas.List.{take_more, take_all}
use Rattle.std.specs.List.{Contains}
use Rattle.std.proofs.lemmas.List.Elements.{Contains-append_left, Contains-append_right}
use Rattle.go_board.specs.declared.points.Point.{Point}
use Rattle.shape_core.specs.Inner.KeptLists.{emptied}
use Rattle.shape_core.specs.Inner.Keeping.{Follows}
use Rattle.shape_core.proofs.Playing.{Changes-twice, Changes-same}
use Rattle.shape_core.specs.Field.{MarksNear, reach_of}
use Rattle.shape_core.proofs.Nearness.{MarksNear-twice}
use Rattle.shape_core.proofs.Removing.{emptied_none, emptied-push}
use Rattle.shape_core.proofs.kept.KeptWords.empty.Goals as goal

pub loop-point-init : goal.loop-point-init
loop-point-init c = record {
  room = c.requires.room;
  change = Changes-same c.args.self.now;
  near = λ q was. inl was;
  follow = λ position was. subst (Follows c.args.self.now) (sym (emptied_none position)) was;
}

pub loop-point-preserved : goal.loop-point-preserved
loop-point-preserved c =
    let points = c.args.points.now in
    let index = c.loop-point.point-index in
    let is = c.loop-point.invariant in
    let none : Point = record { column = 0; row = 0 } in
    record {
      room = c.change.ensures.room;
      change = Changes-twice c.args.self.now c.loop-point.self c.change.new.self is.change c.change.ensures.change;
      near =
          MarksNear-twice (reach_of c.args.self.now.kinds) (take index points) (get_or points index none ∷ []) (take (index + 1) points)
          c.args.self.now.changed.items c.loop-point.self.changed.items c.change.new.self.changed.items
          (λ p held. subst (λ ps. Contains ps p) (sym (take_more points index none (omega arith))) (Contains-append_left (take index points) (get_or points index none ∷ []) p held))
          (λ p held. subst (λ ps. Contains ps p) (sym (take_more points index none (omega arith))) (Contains-append_right (take index points) (get_or points index none ∷ []) p held))
          is.near (rw is.change.kinds at c.change.ensures.near);
      follow = λ position was.
          let next = ap (emptied position) (take_more points index none (omega arith)) ∙ emptied-push position (take index points) (get_or points index none) in
          subst (Follows c.change.new.self) (sym next) (c.change.ensures.follow (emptied position (take index points)) (is.follow position was));
    }

pub returns-clause-near : goal.returns-clause-near
returns-clause-near c =
    subst (λ points. MarksNear (reach_of c.args.self.now.kinds) points c.args.self.now.changed.items c.loop-point.self.changed.items)
    (take_all c.loop-point.point-index c.args.points.now (omega arith)) c.loop-point.invariant.near

pub returns-clause-follow : goal.returns-clause-follow
returns-clause-follow c = λ position was.
    let whole = ap (emptied position) (take_all c.loop-point.point-index c.args.points.now (omega arith)) in
    subst (Follows c.loop-point.self) whole (c.loop-point.invariant.follow position was)
