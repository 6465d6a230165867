use Rattle.std.proofs.Common.{get_or, take, ap, sym, subst, ◌∙◌, arith}
use Rattle.std.proofs.lemmas.List.{take_more, take_all}
use Rattle.go_board.specs.declared.points.Point.{Point}
use Rattle.shape_core.specs.Inner.EmptyPoints.{AreEmpty}
use Rattle.shape_core.specs.Inner.KeptLists.{emptied}
use Rattle.shape_core.proofs.Removing.{emptied_none, emptied-push}
use Rattle.shape_core.proofs.empty_points.EmptyPoints.empty.Goals as goal

pub loop-point-init : goal.loop-point-init
loop-point-init c = record {
  rows = λ size rows. rows;
  follow = λ size position extent on are. subst (λ p. AreEmpty size p c.args.self.now.rows.items) (sym (emptied_none position)) are;
}

pub loop-point-preserved : goal.loop-point-preserved
loop-point-preserved c =
    let points = c.args.points.now in
    let index = c.loop-point.point-index in
    let is = c.loop-point.invariant in
    let none : Point = record { column = 0; row = 0 } in
    record {
      rows = λ size rows. let was = is.rows size rows in record { extent = was.extent; count = c.put.ensures.rows ∙ was.count };
      follow = λ size position extent on are.
          let next = ap (emptied position) (take_more points index none (omega arith)) ∙ emptied-push position (take index points) (get_or points index none) in
          subst (λ p. AreEmpty size p c.put.new.self.rows.items) (sym next)
          (c.put.ensures.follow size (emptied position (take index points)) extent (on index none (omega arith)) (is.follow size position extent on are));
    }

pub returns : goal.returns
returns c = λ size position extent on are.
    subst (λ p. AreEmpty size p c.loop-point.self.rows.items) (ap (emptied position) (take_all c.loop-point.point-index c.args.points.now (omega arith)))
    (c.loop-point.invariant.follow size position extent on are)
