use Rattle.probe_core.proofs.Histories.{one_each_legal}
use Rattle.probe_core.proofs.laws.keys_have_one_number.Goals as goal

pub returns : goal.returns
returns c = λ n history key p q legal at_p at_q. one_each_legal n history legal key p q at_p at_q
