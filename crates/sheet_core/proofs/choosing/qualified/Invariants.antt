use Rattle.std.proofs.Common.{◌≡◌, take}
use Rattle.std.specs.List.{filter}
use Rattle.sheet_core.specs.Inner.Choice.{qualifies}
use Rattle.sheet_core.proofs.choosing.qualified.Given as goal

abbrev pub invariant-loop-entry : goal.invariant-loop-entry
invariant-loop-entry l = l.found.items ≡ filter (qualifies l.kind l.least) (take l.entry-index l.entries)
