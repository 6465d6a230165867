use Rattle.game_files.specs.Sources.{AreGames}
use Rattle.game_files.proofs.walks.walk_below.Goals as goal
use Rattle.game_files.proofs.walks.walk_below.Goals.{else-loop-test, then-loop-test+in_ok-step+then-not-branch}

pub returns : goal.returns
returns c =
    let games : AreGames c.loop-test.walk.below.files.items =
    elim c.loop-test.branch [
      | else-loop-test w ↦ rw w.walk-is c.loop.invariant
      | then-loop-test+in_ok-step+then-not-branch w ↦ rw w.walk-is (w.in_ok-step.ensures c.loop.invariant)
    ] in
    record { sorted = c.sort_names.ensures.sorted; games = λ name has. games name (c.sort_names.ensures.only name has) }
