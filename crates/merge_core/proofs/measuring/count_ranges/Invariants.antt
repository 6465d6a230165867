use Rattle.merge_core.specs.Inner.Ranges.{IsRanged}
use Rattle.merge_core.proofs.measuring.count_ranges.Given as goal

abbrev pub invariant-loop-n : goal.invariant-loop-n
invariant-loop-n g l = IsRanged (g.S.Sources.bytes l.sources) l.plan l.from l.n l.total
