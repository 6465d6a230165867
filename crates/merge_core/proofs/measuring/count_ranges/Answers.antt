use Rattle.std.proofs.Common.{◌≡◌, ◌+◌, arith, subst, ℕ}
use Rattle.merge_core.specs.Inner.Ranges.{IsRanged}
use Rattle.merge_core.proofs.Besides.{ranged_both}
use Rattle.merge_core.proofs.measuring.count_ranges.Goals as goal

pub loop-n-preserved : goal.loop-n-preserved
loop-n-preserved g c =
    ranged_both (g.S.Sources.bytes c.args.sources.now) c.args.plan.now c.args.from c.loop-n.n (c.loop-n.n + 1) c.loop-n.total c.in-Ok-count_one.next c.in-Ok-both_ranged.both c.loop-n.invariant c.in-Ok-count_one.ensures
    c.in-Ok-both_ranged.ensures.joined c.in-Ok-both_ranged.ensures.each

pub returns : goal.returns
returns g c =
    let end : c.loop-n.n ≡ c.args.to = omega arith in
    subst (λ (n : ℕ). IsRanged (g.S.Sources.bytes c.args.sources.now) c.args.plan.now c.args.from n c.loop-n.total) end c.loop-n.invariant
