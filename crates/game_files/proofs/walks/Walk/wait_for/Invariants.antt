use Rattle.std.proofs.Common.{◌≡◌}
use Rattle.game_files.proofs.walks.Walk.wait_for.Given as goal

abbrev pub invariant-loop-entry : goal.invariant-loop-entry
invariant-loop-entry l = l.self.below.files ≡ l.fn.self.below.files
