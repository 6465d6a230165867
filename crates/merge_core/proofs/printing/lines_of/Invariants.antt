use Rattle.std.proofs.Common.{◌≡◌, take}
use Rattle.merge_core.specs.Inner.Writing.{lines_of}
use Rattle.merge_core.proofs.printing.lines_of.Given as goal

abbrev pub invariant-loop-entry : goal.invariant-loop-entry
invariant-loop-entry l = l.lines.items ≡ lines_of l.form (take l.entry-index l.entries)
