use Rattle.slot_table.proofs.Leasts.{marked_games}
use Rattle.slot_table.proofs.laws.a_least_game_was_marked.Goals as goal

pub returns : goal.returns
returns c = marked_games
