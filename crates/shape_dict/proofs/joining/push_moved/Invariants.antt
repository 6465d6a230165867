use Rattle.std.proofs.Common.{◌≡◌, ◌<◌, ◌^◌, ◌++◌, drop, map, All}
use Rattle.shape_dict.specs.Merging.{moved_entry}
use Rattle.shape_dict.proofs.joining.push_moved.Given as goal

abbrev pub invariant-loop-entry : goal.invariant-loop-entry
invariant-loop-entry l = record {
  left : l.entries.items ++ map (moved_entry l.games) (drop l.entry-index l.right) ≡ l.fn.entries.items ++ map (moved_entry l.games) l.right;
  small : All (λ e. e.there < 2 ^ 64) l.entries.items;
}
