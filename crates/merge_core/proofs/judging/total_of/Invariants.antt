use Rattle.std.proofs.Common.{◌≡◌, ℕ, List, []}
use Rattle.shape_dict.specs.declared.entries.Entry.{Entry}
use Rattle.stream_core.specs.Streams.{HasGiven}
use Rattle.merge_core.specs.Inner.Folds.{there_in}
use Rattle.merge_core.specs.Inner.Judging.{capped}
use Rattle.merge_core.proofs.judging.total_of.Given as goal

abbrev pub invariant-loop-place : goal.invariant-loop-place
invariant-loop-place g l = record {
  header : l.lines.header ≡ l.fn.lines.header;
  sum : (whole : List ℕ) → HasGiven l.fn.lines whole [] → (entries : List Entry) × HasGiven l.lines whole entries × (l.there ≡ capped (there_in entries));
}
