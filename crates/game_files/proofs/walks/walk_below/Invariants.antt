use Rattle.game_files.specs.Sources.{AreGames}
use Rattle.game_files.proofs.walks.walk_below.Given as goal

abbrev pub invariant-loop : goal.invariant-loop
invariant-loop l = AreGames l.walk.below.files.items
