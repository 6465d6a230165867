use Rattle.std.proofs.Common.{take}
use Rattle.merge_core.specs.Inner.Ranges.{IsCountOf}
use Rattle.merge_core.proofs.tallies.count_of.Given as goal

abbrev pub invariant-loop-entry : goal.invariant-loop-entry
invariant-loop-entry l = IsCountOf l.least (take l.entry-index l.entries) l.tally
