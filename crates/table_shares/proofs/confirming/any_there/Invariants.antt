use Rattle.table_shares.proofs.confirming.any_there.Given as goal

-- nothing is claimed where no such row was found
abbrev pub invariant-loop-share : goal.invariant-loop-share
invariant-loop-share l = Unit {0}
