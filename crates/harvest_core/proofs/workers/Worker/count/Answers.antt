use Rattle.std.proofs.Common.{ℕ, List, [], ◌∷◌, ◌++◌, length, IfOk, ap, subst, ◌∙◌, arith}
use Rattle.go_record.specs.Actions.{Actions}
use Rattle.game_core.specs.Games.{IsGameOf}
use Rattle.gather_core.specs.Adding.{IsAdded}
use Rattle.harvest_core.specs.Working.{IsGame}
use Rattle.harvest_core.specs.Inner.Working.{IsShareOfGames}
use Rattle.harvest_core.proofs.ByWords.{counted_more}
use Rattle.harvest_core.proofs.FewMoves.{game_few}
use Rattle.harvest_core.proofs.workers.Worker.count.Goals as goal

pub add-requires-clause-few : goal.add-requires-clause-few
add-requires-clause-few g c =
    let shared = c.args.shared.now in
    let job = c.args.job.now in
    omega (
      arith,
      shared.small,
      game_few job.bytes job.game job.at job.end job.actions c.record.ensures.game,
      ap (λ (bytes : List ℕ). length bytes) c.requires.job,
      ap (λ (a : Actions). length a.actions) c.record.ensures.value,
    )

pub returns-in_default-add-clause-counted : goal.returns-in_default-add-clause-counted
returns-in_default-add-clause-counted g c games h =
    let shared = c.args.shared.now in
    let job = c.args.job.now in
    let old = c.in-Ok.words in
    let new = c.add.new.self in
    let of : IsShareOfGames shared games old = subst (λ r. IfOk r (IsShareOfGames shared games)) c.in-Ok.is h.0 in
    let is : IsGame shared.bytes.now job.game job.actions = record {
      at = job.at;
      end = job.end;
      is_of = subst (λ bs. IsGameOf bs job.game job.at job.end job.actions) c.requires.job c.record.ensures.game;
    } in
    let added : IsAdded job.game job.actions old new = subst (λ k. IsAdded k job.actions old new) c.game-2.ensures.number
    (subst (λ (a : Actions). IsAdded c.game-2.result a old new) c.record.ensures.value c.in_default-add.ensures.added) in (
      record {
        of_input = counted_more shared.bytes.now shared.kinds job.game job.actions old new is added of.of_input;
        games_are = added.games ∙ ap (λ (xs : List ℕ). xs ++ job.game ∷ []) of.games_are;
      },
      tt,
    )
