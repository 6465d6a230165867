use Rattle.std.proofs.Common.{◌≡◌, length}
use Rattle.go_record.specs.Spelling.{without_white_front}
use Rattle.go_record.proofs.spelling.without_white_front.Given as goal

abbrev pub invariant-loop-rest : goal.invariant-loop-rest
invariant-loop-rest l = without_white_front l.rest ≡ without_white_front l.bytes

abbrev pub decreases-loop-rest : goal.decreases-loop-rest
decreases-loop-rest l = length l.rest
