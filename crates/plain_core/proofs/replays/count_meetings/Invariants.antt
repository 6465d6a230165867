use Rattle.std.proofs.Common.{take}
use Rattle.plain_core.specs.Inner.Counter.{count_in, CountsMeetings}
use Rattle.plain_core.proofs.replays.count_meetings.Given as goal

abbrev pub invariant-loop-i : goal.invariant-loop-i
invariant-loop-i l = CountsMeetings l.game (take l.i l.meetings) (count_in l.fn.counts) (count_in l.counts)
