-- The first points of the group are empty and in the list, and at the end all are.
use Rattle.std.proofs.Common.{◌∙◌, slice_index_or}
use Rattle.std.proofs.lemmas.List.{get_or_default}
use Rattle.go_board.proofs.Removals.{Removing-start, Removing-more, Removing-end, point_at}
use Rattle.go_board.proofs.groups.remove.Goals as goal

pub loop-point-init : goal.loop-point-init
loop-point-init c = (c.requires.removed_sized, Removing-start c.args.size c.args.stones.now c.args.removed.now.points c.points-point-items.result.now c.requires.board)

pub add-requires : goal.add-requires
add-requires c =
    rw c.loop-point.invariant.0
    (point_at c.args.size c.args.group.now.size c.points-point-items.result.now c.args.group.now.points c.loop-point.point-index (record { column = 0; row = 0 })
    c.requires.group_sized c.points-point-items.ensures.value c.points-point-items.ensures.gathered c.loop-point-test.true)

pub loop-point-preserved : goal.loop-point-preserved
loop-point-preserved c =
    let p = slice_index_or c.points-point-items.result.now c.loop-point.point-index (record { column = 0; row = 0 }) in
    let on = point_at c.args.size c.args.group.now.size c.points-point-items.result.now c.args.group.now.points c.loop-point.point-index (record { column = 0; row = 0 })
    c.requires.group_sized c.points-point-items.ensures.value c.points-point-items.ensures.gathered c.loop-point-test.true in (
      c.add.ensures.size ∙ c.loop-point.invariant.0,
      rw c.index.ensures.value
          (Removing-more c.args.size c.args.stones.now c.args.removed.now.points c.points-point-items.result.now c.loop-point.point-index c.loop-point.stones
          c.loop-point.removed.points c.add.new.self.points p on c.loop-point-test.true
          (get_or_default c.points-point-items.result.now c.loop-point.point-index p (record { column = 0; row = 0 }) c.loop-point-test.true)
          c.add.ensures.points c.loop-point.invariant.1),
    )

pub returns-clause-removed_sized : goal.returns-clause-removed_sized
returns-clause-removed_sized c = c.loop-point.invariant.0

pub returns-clause-stones : goal.returns-clause-stones
returns-clause-stones c =
    (Removing-end c.args.size c.args.stones.now c.args.removed.now.points c.points-point-items.result.now c.args.group.now.points c.loop-point.point-index
    c.loop-point.stones c.loop-point.removed.points c.loop-point-test.false c.points-point-items.ensures.value c.loop-point.invariant.1).gone

pub returns-clause-removed : goal.returns-clause-removed
returns-clause-removed c =
    (Removing-end c.args.size c.args.stones.now c.args.removed.now.points c.points-point-items.result.now c.args.group.now.points c.loop-point.point-index
    c.loop-point.stones c.loop-point.removed.points c.loop-point-test.false c.points-point-items.ensures.value c.loop-point.invariant.1).in_list
