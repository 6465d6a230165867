use Rattle.slot_table.proofs.Portions.{split_is_as_much}
use Rattle.slot_table.proofs.laws.a_split_loses_no_stake.Goals as goal

pub returns : goal.returns
returns c = split_is_as_much
