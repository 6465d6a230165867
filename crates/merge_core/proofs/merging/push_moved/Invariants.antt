use Rattle.std.proofs.Common.{◌≡◌, ◌++◌, drop, map}
use Rattle.shape_dict.specs.Merging.{moved_entry}
use Rattle.merge_core.proofs.merging.push_moved.Given as goal

abbrev pub invariant-loop-entry : goal.invariant-loop-entry
invariant-loop-entry l = record {
  left : l.entries.items ++ map (moved_entry l.games) (drop l.entry-index l.right) ≡ l.fn.entries.items ++ map (moved_entry l.games) l.right;
}
