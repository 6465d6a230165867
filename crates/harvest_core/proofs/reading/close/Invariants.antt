use Rattle.harvest_core.specs.Inner.Working.{GoesOn}
use Rattle.harvest_core.proofs.reading.close.Given as goal

-- what was drawn so far was counted
abbrev pub invariant-loop : goal.invariant-loop
invariant-loop g l = GoesOn l.fn.shared l.fn.own l.own
