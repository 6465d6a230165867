use Rattle.merge_core.proofs.tallies.count_of.Goals as goal

pub loop-entry-init : goal.loop-entry-init
loop-entry-init c = c.no_tally-tally.ensures c.args.least
