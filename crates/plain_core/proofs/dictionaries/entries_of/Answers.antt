use Rattle.std.proofs.lemmas.List.Sorted.{All-permutation}
use Rattle.range_core.specs.Entries.{IsShape}
use Rattle.plain_core.proofs.InOrder.{sorted_rises, sorted_entered}
use Rattle.plain_core.proofs.dictionaries.entries_of.Goals as goal

pub returns-clause-entries : goal.returns-clause-entries
returns-clause-entries c shape =
    sorted_entered c.args.counts c.into_entries.result.items c.in_order.result.items c.into_entries.ensures.entries c.into_entries.ensures.once
    c.in_order.ensures.same shape

pub returns-clause-shapes : goal.returns-clause-shapes
returns-clause-shapes c = All-permutation IsShape c.into_entries.result.items c.in_order.result.items c.in_order.ensures.same c.into_entries.ensures.shapes

pub returns-clause-rises : goal.returns-clause-rises
returns-clause-rises c =
    sorted_rises c.args.counts c.into_entries.result.items c.in_order.result.items c.into_entries.ensures.entries c.into_entries.ensures.once
    c.in_order.ensures.same c.in_order.ensures.sorted
