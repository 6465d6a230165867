use Rattle.std.proofs.Common.{ap, ◌∙◌}
use Rattle.std.proofs.lemmas.Bool.{OnTrue_at}
use Rattle.range_core.specs.Totals.{together, total_of, count_at}
use Rattle.range_core.proofs.Adding.{counted_next}
use Rattle.range_core.proofs.sums.Sums.add_all.Goals as goal

pub loop-entry-preserved : goal.loop-entry-preserved
loop-entry-preserved c shape =
    let entry = c.entry-item.result in
    OnTrue_at c.if-not-add.false c.add.ensures shape
    ∙ ap (λ t. together t (count_at shape entry)) (c.loop-entry.invariant shape)
    ∙ counted_next shape (total_of shape c.args.self.now) c.args.entries.now c.loop-entry.entry-index entry c.loop-entry-test.true c.entry-item.is
