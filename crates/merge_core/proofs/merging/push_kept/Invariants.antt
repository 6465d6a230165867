use Rattle.std.proofs.Common.{◌≡◌, ◌++◌, drop}
use Rattle.merge_core.proofs.merging.push_kept.Given as goal

abbrev pub invariant-loop-entry : goal.invariant-loop-entry
invariant-loop-entry l = record {
  left : l.entries.items ++ drop l.entry-index l.left ≡ l.fn.entries.items ++ l.left;
}
