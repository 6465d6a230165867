use Rattle.sgf_core.proofs.Counts.{few}
use Rattle.sgf_core.proofs.laws.few_values.Goals as goal

pub returns : goal.returns
returns c = few
