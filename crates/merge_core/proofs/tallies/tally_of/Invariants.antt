use Rattle.std.proofs.Common.{take}
use Rattle.merge_core.specs.Inner.Ranges.{IsTally}
use Rattle.merge_core.proofs.tallies.tally_of.Given as goal

abbrev pub invariant-loop-entry : goal.invariant-loop-entry
invariant-loop-entry l = IsTally (take l.entry-index l.entries) l.tally
