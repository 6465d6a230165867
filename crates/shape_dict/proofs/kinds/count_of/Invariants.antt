use Rattle.std.proofs.Common.{◌≡◌, ◌+◌, ◌≤◌, length, drop}
use Rattle.shape_dict.specs.Contents.{of_kind}
use Rattle.shape_dict.proofs.kinds.count_of.Given as goal

abbrev pub invariant-loop-entry : goal.invariant-loop-entry
invariant-loop-entry l = record {
  few : l.count ≤ l.entry-index;
  left : l.count + length (of_kind l.kind (drop l.entry-index l.entries)) ≡ length (of_kind l.kind l.entries);
}
