use Rattle.std.proofs.Common.{◌∙◌, arith}
use Rattle.std.proofs.lemmas.List.{take_all}
use Rattle.merge_core.specs.Inner.Tallies.{sums}
use Rattle.merge_core.proofs.Tallied.{sums_more, length-sums}
use Rattle.merge_core.proofs.tallies.each_tally.Goals as goal

pub loop-place-preserved : goal.loop-place-preserved
loop-place-preserved c =
    record { same = sums_more c.args.left.now c.args.right.now c.loop-place.both.items c.push.new.self.items c.loop-place.place _ _ c.in-Some.sum (omega arith) (omega arith) c.loop-place.invariant.same c.in-Some.ensures c.in-Ok.ensures.items }

pub returns-clause-sums : goal.returns-clause-sums
returns-clause-sums c =
    let l = c.args.left.now in
    let r = c.args.right.now in
    c.loop-place.invariant.same ∙ take_all c.loop-place.place (sums l r) (omega (arith, length-sums l r (omega arith)))
