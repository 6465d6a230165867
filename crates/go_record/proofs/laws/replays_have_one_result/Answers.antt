use Rattle.go_record.proofs.OneResult.{replays_one}
use Rattle.go_record.proofs.laws.replays_have_one_result.Goals as goal

pub returns : goal.returns
returns c = replays_one
