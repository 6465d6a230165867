use Rattle.std.proofs.Common.{IfNone, sym, subst, ◌∙◌}
use Rattle.game_core.specs.Games.{HasReadAll}
use Rattle.game_core.specs.Reading.{HasNoGame}
use Rattle.plain_core.specs.Inner.Counting.{CountsUpTo}
use Rattle.plain_core.proofs.NextGame.{counts_all}
use Rattle.plain_core.proofs.counting.count_games.Goals as goal

pub returns-clause-counted : goal.returns-clause-counted
returns-clause-counted c =
    let kinds = c.args.walker.now.walk.kinds in
    let bytes = c.args.walker.now.games.bytes in
    let after = c.next.new.self.games in
    let none = subst (λ o. IfNone o (HasNoGame c.game.walker.games after)) c.in_default.is c.in_ok-game.ensures.none in
    counts_all kinds bytes after.report c.game.counter
    (subst (λ b. HasReadAll b after.report) (c.next.ensures.bytes ∙ c.game.invariant.bytes) none.all)
    (subst (λ number. CountsUpTo kinds bytes number c.game.counter) (sym none.games) c.game.invariant.counted)
