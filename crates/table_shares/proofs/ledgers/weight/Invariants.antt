use Rattle.std.proofs.Common.{◌≡◌, take}
use Rattle.table_shares.proofs.Common.{weight_among}
use Rattle.table_shares.proofs.ledgers.weight.Given as goal

-- the total so far
abbrev pub invariant-loop-meeting : goal.invariant-loop-meeting
invariant-loop-meeting l = l.total ≡ weight_among (take l.meeting-index l.meetings)
