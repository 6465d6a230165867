use Rattle.slot_table.proofs.Portions.{as_much_through, as_much_together, as_much_turned}
use Rattle.slot_table.proofs.laws.stakes_add_up.Goals as goal

pub returns-clause-through : goal.returns-clause-through
returns-clause-through c = as_much_through

pub returns-clause-together : goal.returns-clause-together
returns-clause-together c = as_much_together

pub returns-clause-turned : goal.returns-clause-turned
returns-clause-turned c = as_much_turned
