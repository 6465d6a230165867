use Rattle.go_board.proofs.Agreement.{Plays-one}
use Rattle.go_board.proofs.laws.moves_have_one_result.Goals as goal

pub returns : goal.returns
returns c = Plays-one
