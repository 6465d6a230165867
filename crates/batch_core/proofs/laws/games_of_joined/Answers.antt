use Rattle.batch_core.proofs.Joined.{together, apart}
use Rattle.batch_core.proofs.laws.games_of_joined.Goals as goal

pub returns-clause-apart : goal.returns-clause-apart
returns-clause-apart c = apart

pub returns-clause-together : goal.returns-clause-together
returns-clause-together c = together
