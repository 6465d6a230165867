use Rattle.go_record.proofs.Few.{few}
use Rattle.go_record.proofs.laws.few_actions.Goals as goal

pub returns : goal.returns
returns c = few
