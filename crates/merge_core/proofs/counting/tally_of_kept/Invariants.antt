use Rattle.std.proofs.Common.{List, ◌++◌}
use Rattle.shape_dict.specs.declared.entries.Entry.{Entry}
use Rattle.merge_core.specs.Inner.Counting.{HasCounted}
use Rattle.merge_core.specs.Inner.Ranges.{IsCountOf}
use Rattle.merge_core.specs.Inner.Trees.{Yields}
use Rattle.merge_core.proofs.counting.tally_of_kept.Given as goal

abbrev pub invariant-loop-place : goal.invariant-loop-place
invariant-loop-place g l = record {
  counted : (all : List Entry) → Yields g.E.Entries.yields l.fn.tree all → HasCounted l.least l.counts (Yields g.E.Entries.yields l.tree) all;
  came : (given : List Entry) × IsCountOf l.least given l.counts × ((others : List Entry) → Yields g.E.Entries.came l.tree others → Yields g.E.Entries.came l.fn.tree (given ++ others));
}
