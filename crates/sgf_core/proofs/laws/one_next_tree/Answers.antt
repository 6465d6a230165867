use Rattle.sgf_core.proofs.OneAnswer.{same_next}
use Rattle.sgf_core.proofs.laws.one_next_tree.Goals as goal

pub returns : goal.returns
returns c = same_next
