use Rattle.std.proofs.Common.{ap, sym, ◌∙◌, add-one, take}
use Rattle.shape_dict.specs.declared.entries.Entry.{Entry}
use Rattle.plain_core.specs.Inner.Counter.{used_again}
use Rattle.tally_core.specs.Inner.Times.{one_pattern}
use Rattle.plain_core.specs.Inner.Entries.{counts_of, counted_with}
use Rattle.plain_core.proofs.RowLookups.{take_counts}
use Rattle.range_core.proofs.Ways.{read_at}
use Rattle.plain_core.proofs.counts.Counts.enter_all.Goals as goal

pub loop-row-preserved : goal.loop-row-preserved
loop-row-preserved c shape =
    let rows = c.args.rows.now in
    let i = c.loop-row.row-index in
    let row = c.row-item.result in
    c.in-Ok.ensures.ok shape
    ∙ ap (used_again row.first (one_pattern row.shape row.there shape) (one_pattern row.shape row.played shape)) (c.loop-row.invariant shape)
    ∙ ap (λ (r : Entry). counted_with r (counts_of (take i rows)) shape) (read_at rows i row c.row-item.is c.loop-row-test.true)
    ∙ sym (take_counts rows i c.requires.rows.1 c.loop-row-test.true shape) ∙ ap (λ n. counts_of (take n rows) shape) (sym (add-one i))
