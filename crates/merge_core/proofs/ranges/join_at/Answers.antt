use Rattle.merge_core.proofs.Paired.{at_joins}
use Rattle.merge_core.proofs.ranges.join_at.Goals as goal

pub returns : goal.returns
returns g c =
    at_joins (g.S.Sources.bytes c.args.sources.now) c.args.plan.now c.args.n c.in-Some.low.now c.in-Some-cut_at.high.now c.args.each.now.items c.join_range.new.each.items c.join_range.result c.as_slice-headers.result.now c.deref.result.now c.deref-2.result.now
    c.as_slice-headers.ensures.value c.deref.ensures.value c.deref-2.ensures.value c.in-Some.ensures c.in-Some-cut_at.ensures c.join_range.ensures
