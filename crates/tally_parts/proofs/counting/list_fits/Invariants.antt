use Rattle.std.proofs.Common.{take}
use Rattle.std.specs.List.{All}
use Rattle.tally_parts.proofs.Small.{IsSmallUse}
use Rattle.tally_parts.proofs.counting.list_fits.Given as goal

abbrev pub invariant-loop-entry : goal.invariant-loop-entry
invariant-loop-entry l = All IsSmallUse (take l.entry-index l.entries)
