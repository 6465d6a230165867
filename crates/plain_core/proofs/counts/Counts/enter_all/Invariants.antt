use Rattle.std.proofs.Common.{take}
use Rattle.plain_core.specs.Inner.Counter.{count_in, AreCounts}
use Rattle.plain_core.specs.Inner.Entries.{counts_of}
use Rattle.plain_core.proofs.counts.Counts.enter_all.Given as goal

abbrev pub invariant-loop-row : goal.invariant-loop-row
invariant-loop-row l = AreCounts (counts_of (take l.row-index l.fn.rows)) (count_in l.self)
