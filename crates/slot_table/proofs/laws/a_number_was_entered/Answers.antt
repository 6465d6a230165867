use Rattle.slot_table.proofs.Enters.{was_entered}
use Rattle.slot_table.proofs.laws.a_number_was_entered.Goals as goal

pub returns : goal.returns
returns c = was_entered
