-- A point with no mark is none of the members, so there is room for it, and each point still comes once.
use Rattle.std.proofs.Common.{rules, ◌<◌, inr, length}
use Rattle.std.proofs.lemmas.List.{take_more_set}
use Rattle.go_board.proofs.Sets.{has_room, IsPointSet-added, unmarked}
use Rattle.go_board.proofs.point_sets.PointSet.add.Goals as goal

pub index_mut-requires-then-not-index : goal.index_mut-requires-then-not-index
index_mut-requires-then-not-index c =
    let none = unmarked c.self.inside.size c.self.inside.marks.items c.args.point c.index-index.result c.index.result.now c.index-index.ensures.value c.index.ensures c.if-not-index.true in
    let room : c.self.inside.count < length c.self.inside.members.items = has_room c.self.inside.size c.self.inside.marks.items c.self.inside.members.items c.self.inside.count c.args.point (rw (← c.self.view_is) at c.requires) c.self.invariant none in
    search (rules, room)

pub invariant_of-self : goal.invariant_of-self
invariant_of-self c =
    let none = unmarked c.self.inside.size c.self.inside.marks.items c.args.point c.index-index.result c.index.result.now c.index-index.ensures.value c.index.ensures c.if-not-index.true in
    rw c.index-index.ensures.value (IsPointSet-added c.self.inside.size c.self.inside.marks.items c.self.inside.members.items c.self.inside.count c.args.point (rw (← c.self.view_is) at c.requires) c.self.invariant none)

pub returns-then-not-index-clause-points : goal.returns-then-not-index-clause-points
returns-then-not-index-clause-points c =
    let none = unmarked c.self.inside.size c.self.inside.marks.items c.args.point c.index-index.result c.index.result.now c.index-index.ensures.value c.index.ensures c.if-not-index.true in
    let room = has_room c.self.inside.size c.self.inside.marks.items c.self.inside.members.items c.self.inside.count c.args.point (rw (← c.self.view_is) at c.requires) c.self.invariant none in
    rw (← c.self.view_is) (inr (take_more_set c.self.inside.members.items c.self.inside.count c.args.point room))
