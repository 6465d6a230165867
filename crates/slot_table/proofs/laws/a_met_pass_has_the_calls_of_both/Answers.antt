use Rattle.slot_table.proofs.Meetings.{met_calls}
use Rattle.slot_table.proofs.laws.a_met_pass_has_the_calls_of_both.Goals as goal

pub returns : goal.returns
returns g c = met_calls
