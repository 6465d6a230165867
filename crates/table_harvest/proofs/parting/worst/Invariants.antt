use Rattle.std.proofs.Common.{◌≡◌}
use Rattle.std.specs.Prelude.{MatchOption}
use Rattle.table_harvest.proofs.Parted.{IsWorstOf}
use Rattle.table_harvest.proofs.parting.worst.Given as goal

-- the fault so far is one of the refusals, and none of those so far goes before it
abbrev pub invariant-loop-one : goal.invariant-loop-one
invariant-loop-one l = MatchOption l.found (l.one-index ≡ 0) (IsWorstOf l.refusals l.one-index)
