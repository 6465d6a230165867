use Rattle.std.proofs.Common.{IfNone, subst, ◌∙◌, arith}
use Rattle.game_core.specs.Games.{HasReadAll}
use Rattle.game_core.specs.Reading.{HasNoGame}
use Rattle.beyond_core.proofs.Reread.{as_many_games}
use Rattle.beyond_core.proofs.too_many.job_of.Goals as goal

pub unreachable-requires : goal.unreachable-requires
unreachable-requires c =
    let before = c.turn.games in
    let after = c.next_job.new.self in
    let none = subst (λ o. IfNone o (HasNoGame before after)) c.in_default.is c.in_ok-job.ensures.none in
    let all = subst (λ b. HasReadAll b after.report) (c.next_job.ensures.bytes ∙ c.turn.invariant.bytes) none.all in
    let same = as_many_games c.args.bytes.now after.report c.requires.report all c.requires.all in
    omega (arith, same, none.games, c.turn.invariant.few, c.requires.inside)
