use Rattle.batch_core.proofs.Joined.{one_games, both_games}
use Rattle.batch_core.proofs.laws.games_come_together.Goals as goal

pub returns-clause-one : goal.returns-clause-one
returns-clause-one c = one_games

pub returns-clause-both : goal.returns-clause-both
returns-clause-both c = both_games
