use Rattle.std.proofs.Common.{◌≡◌, ◌+◌, ◌∷◌, [], ◌++◌, ◌∙◌, IfSome, IfNone, ap, sym, subst, arith, length, length-append}
use Rattle.game_core.specs.Games.{IsGameOf, HasReadAll}
use Rattle.game_core.specs.Reading.{IsNextGame, HasNoGame}
use Rattle.hits_core.specs.declared.games.Game.{Game}
use Rattle.game_core.specs.declared.reports.Report.{Report}
use Rattle.hits_core.specs.Inner.Reading.{ReadsUpTo}
use Rattle.hits_core.specs.Inner.Reading as of_hits
use Rattle.hits_core.proofs.Trees.{reads-on, reads-all}
use Rattle.hits_core.proofs.reading.read_games.Goals as goal

pub loop-games-preserved : goal.loop-games-preserved
loop-games-preserved c =
    let is = c.loop-games.invariant in
    let input = c.args.input.now in
    let job = c.in-Some.job in
    let before = c.loop-games.reader in
    let after = c.next_job.new.self in
    let kept = c.into_record.result in
    let games = c.loop-games.games.items in
    let new = c.push.new.self.items in
    let next : IsNextGame before after job = subst (λ o. IfSome o (IsNextGame before after)) c.in-Some.is c.in_ok-job.ensures.job in
    let number = c.in-Some-checked_add.number in
    let game : Game = record { number = number; place = job.at; recorded = kept } in
    let grown : new ≡ games ++ game ∷ [] =
    c.in_ok-push.ensures.items ∙ ap (λ p. games ++ record { number = number; place = p; recorded = kept } ∷ []) c.at.ensures in
    let longer : length new ≡ length games + 1 = ap length grown ∙ length-append games (game ∷ []) in
    record {
      bytes = c.next_job.ensures.bytes ∙ is.bytes;
      number = omega (arith, next.counted, is.number, longer);
      reads = subst (λ place. ReadsUpTo input c.args.first place new) (sym next.ends)
          (reads-on input c.args.first before.from games new job.game number job.at job.end kept is.reads
          (subst (λ bytes. IsGameOf bytes job.game job.at job.end kept) (next.bytes ∙ is.bytes) c.into_record.ensures.game) (next.game ∙ is.number) (omega arith) grown);
    }

pub returns-clause-games : goal.returns-clause-games
returns-clause-games c =
    let is = c.loop-games.invariant in
    let input = c.args.input.now in
    let before = c.loop-games.reader in
    let after = c.next_job.new.self in
    let none = subst (λ o. IfNone o (HasNoGame before after)) c.in_default.is c.in_ok-job.ensures.none in
    subst (λ (r : Report). of_hits.HasReadAll input c.args.first c.loop-games.games.items r) (sym c.report.ensures.report)
    (reads-all input c.args.first before.from c.loop-games.games.items after.report is.reads
    (subst (λ bytes. HasReadAll bytes after.report) (c.next_job.ensures.bytes ∙ is.bytes) none.all) (none.games ∙ is.number))
