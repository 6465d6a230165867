use Rattle.std.proofs.Common.{◌∷◌, [], ◌++◌, take, get_or, ◌∙◌, arith, append_assoc}
use Rattle.table_shares.proofs.Common.{take_more, take_all}
use Rattle.table_shares.proofs.covering.note_all.Goals as goal

pub loop-game-preserved : goal.loop-game-preserved
loop-game-preserved c =
    let i = c.loop-game.game-index in
    let games = c.args.games.now in
    record {
      long = c.note.ensures.long ∙ c.loop-game.invariant.long;
      noted = λ list h. rw (take_more games i 0 c.loop-game-test.true, ← append_assoc list (take i games) (get_or games i 0 ∷ []))
          (c.note.ensures.noted (list ++ take i games) (c.loop-game.invariant.noted list h));
    }

pub returns-clause-noted : goal.returns-clause-noted
returns-clause-noted c list h =
    rw (take_all c.loop-game.game-index c.args.games.now (omega arith)) at (c.loop-game.invariant.noted list h)
