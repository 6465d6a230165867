use Rattle.game_core.proofs.OneGame.{one_game, one_game_so_far}
use Rattle.game_core.proofs.laws.a_number_is_of_one_game.Goals as goal

pub returns-clause-all : goal.returns-clause-all
returns-clause-all c = one_game

pub returns-clause-first : goal.returns-clause-first
returns-clause-first c = one_game_so_far
