use Rattle.engine_core.proofs.halves.+join_front.Given as goal

abbrev pub decreases-join_front : goal.decreases-join_front
decreases-join_front l = l.least
