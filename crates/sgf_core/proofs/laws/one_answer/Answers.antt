use Rattle.sgf_core.proofs.OneAnswer.{tree_not_fault}
use Rattle.sgf_core.proofs.laws.one_answer.Goals as goal

pub returns-clause-tree_or_fault : goal.returns-clause-tree_or_fault
returns-clause-tree_or_fault c = tree_not_fault
