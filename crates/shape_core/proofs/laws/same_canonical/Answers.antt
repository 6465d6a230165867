use Rattle.shape_core.proofs.Least.{same_canonical}
use Rattle.shape_core.proofs.laws.same_canonical.Goals as goal

pub returns : goal.returns
returns c = same_canonical
