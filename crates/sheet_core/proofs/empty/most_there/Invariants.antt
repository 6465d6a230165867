use Rattle.std.proofs.Common.{◌≡◌, None, drop}
use Rattle.shape_dict.specs.Contents.{of_kind}
use Rattle.sheet_core.specs.Empty.{most_after}
use Rattle.sheet_core.proofs.empty.most_there.Given as goal

abbrev pub invariant-loop-entry : goal.invariant-loop-entry
invariant-loop-entry l = most_after l.most (of_kind l.kind (drop l.entry-index l.entries)) ≡ most_after None (of_kind l.kind l.entries)
