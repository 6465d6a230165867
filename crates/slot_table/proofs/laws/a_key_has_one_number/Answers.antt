use Rattle.slot_table.proofs.Contents.{one_number}
use Rattle.slot_table.proofs.laws.a_key_has_one_number.Goals as goal

pub returns : goal.returns
returns c = one_number
