use Rattle.std.proofs.Common.{◌≡◌}
use Rattle.tally_core.proofs.meetings.Meetings.push_growing.Given as goal

-- the meetings are the same
abbrev pub invariant-loop-at : goal.invariant-loop-at
invariant-loop-at l = l.self ≡ l.initial.self
