use Rattle.std.proofs.Common.{inl}
use Rattle.shape_hits.proofs.words.spelled.Goals as goal

pub returns-in-Err-clause-fault : goal.returns-in-Err-clause-fault
returns-in-Err-clause-fault c = inl (c.requires, c.in-Err.ensures.fault)
