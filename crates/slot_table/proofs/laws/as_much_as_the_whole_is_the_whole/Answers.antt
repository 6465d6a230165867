use Rattle.slot_table.proofs.Portions.{the_first_is_whole, as_much_as_whole}
use Rattle.slot_table.proofs.laws.as_much_as_the_whole_is_the_whole.Goals as goal

pub returns-clause-first : goal.returns-clause-first
returns-clause-first c = the_first_is_whole

pub returns-clause-others : goal.returns-clause-others
returns-clause-others c = as_much_as_whole
