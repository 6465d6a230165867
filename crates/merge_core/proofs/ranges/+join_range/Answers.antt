use Rattle.std.proofs.Common.{◌/◌, arith, subst, ℕ, sym, IfOk}
use Rattle.merge_core.proofs.Paired.{Joins, one_joins, both_join}
use Rattle.merge_core.proofs.ranges.+join_range.Goals as goal

pub returns-then-count-eq1 : goal.returns-then-count-eq1
returns-then-count-eq1 g t c =
    let range = c.args.range in
    subst (λ (n : ℕ). IfOk c.one_joined.result (Joins (g.S.Sources.bytes c.args.sources.now) range.headers.now range.low.now range.high.now c.args.from n c.args.each.now.items c.one_joined.new.each.items)) (sym c.if-count-eq1.true)
    (one_joins (g.S.Sources.bytes c.args.sources.now) range.headers.now range.low.now range.high.now c.args.from c.args.each.now.items c.one_joined.new.each.items c.one_joined.result c.one_joined.ensures)

pub returns : goal.returns
returns g t c =
    let range = c.args.range in
    both_join (g.S.Sources.bytes c.args.sources.now) range.headers.now range.low.now range.high.now c.args.from c.args.count (c.args.count / 2)
    c.args.each.now.items c.join_range.new.each.items c.join_range-2.new.each.items c.in-Ok.left c.in-Ok-join_range.right c.both_joined.result (omega arith)
    c.both_joined.ensures.games c.both_joined.ensures.entries c.in-Ok.ensures c.in-Ok-join_range.ensures
