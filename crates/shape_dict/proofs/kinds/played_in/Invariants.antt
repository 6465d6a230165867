use Rattle.std.proofs.Common.{◌≡◌, ◌+◌, ◌<◌, ◌^◌, drop}
use Rattle.shape_dict.specs.Contents.{of_kind, played_in}
use Rattle.shape_dict.proofs.kinds.played_in.Given as goal

abbrev pub invariant-loop-entry : goal.invariant-loop-entry
invariant-loop-entry l = record {
  fits : l.played < 2 ^ 64;
  left : l.played + played_in (of_kind l.kind (drop l.entry-index l.entries)) ≡ played_in (of_kind l.kind l.entries);
}
