use Rattle.harvest_core.proofs.gathering.count_in_threads.Goals as goal

pub returns-clause-counted : goal.returns-clause-counted
returns-clause-counted g c = c.dictionary_of.ensures.counted c.args.bytes.now c.in_ok-numbering.ensures.counts
