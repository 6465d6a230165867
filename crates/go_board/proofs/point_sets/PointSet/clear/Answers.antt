-- The marks are those of the members from k on, so at the end there is none.
use Rattle.std.proofs.Common.{ap, []}
use Rattle.go_board.specs.Extent.{Extent}
use Rattle.go_board.proofs.Sets.{Clearing-start, Clearing-on, Clearing-more, Clearing-end}
use Rattle.go_board.proofs.point_sets.PointSet.clear.Goals as goal

pub loop-k-init : goal.loop-k-init
loop-k-init c = Clearing-start c.self.inside.size c.self.inside.marks.items c.self.inside.members.items c.self.inside.count c.self.invariant

pub index-index-requires : goal.index-index-requires
index-index-requires c =
    Clearing-on c.self.inside.size c.loop-k.self-inside.size c.loop-k.self-inside.marks.items c.loop-k.self-inside.members.items c.loop-k.self-inside.count
    c.self.inside.count c.loop-k.k c.index.result.now c.loop-k-test.true c.index.ensures c.loop-k.invariant

pub loop-k-preserved : goal.loop-k-preserved
loop-k-preserved c =
    rw c.index-index.ensures.value
    (Clearing-more c.self.inside.size c.loop-k.self-inside.size c.loop-k.self-inside.marks.items c.loop-k.self-inside.members.items c.loop-k.self-inside.count
    c.self.inside.count c.loop-k.k c.index.result.now c.loop-k-test.true c.index.ensures c.loop-k.invariant)

pub invariant_of-self : goal.invariant_of-self
invariant_of-self c =
    Clearing-end c.self.inside.size c.loop-k.self-inside.size c.loop-k.self-inside.marks.items c.loop-k.self-inside.members.items c.loop-k.self-inside.count
    c.self.inside.count c.loop-k.k c.loop-k-test.false c.loop-k.auto.k-end c.loop-k.invariant

pub returns : goal.returns
returns c = rw (← c.self.view_is) (ap (λ (s : Extent). record { size = s; points = [] }) c.loop-k.invariant.same)
