use Rattle.std.proofs.Common.{◌≡◌, ◌<◌, ◌^◌, ◌++◌, drop, All}
use Rattle.shape_dict.proofs.joining.push_kept.Given as goal

abbrev pub invariant-loop-entry : goal.invariant-loop-entry
invariant-loop-entry l = record {
  left : l.entries.items ++ drop l.entry-index l.left ≡ l.fn.entries.items ++ l.left;
  small : All (λ e. e.there < 2 ^ 64) l.entries.items;
}
