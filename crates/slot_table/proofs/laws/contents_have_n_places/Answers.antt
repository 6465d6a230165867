use Rattle.slot_table.proofs.Histories.{length-content}
use Rattle.slot_table.proofs.laws.contents_have_n_places.Goals as goal

pub returns : goal.returns
returns c = length-content
