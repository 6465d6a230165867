use Rattle.sgf_core.proofs.OneAnswer.{same_fault}
use Rattle.sgf_core.proofs.laws.one_fault.Goals as goal

pub returns : goal.returns
returns c = same_fault
