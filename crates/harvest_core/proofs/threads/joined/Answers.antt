use Rattle.std.proofs.Common.{◌≡◌, List, ◌∷◌, [], ◌++◌, IfOk, OnOk, length, All, sym, subst}
use Rattle.std.proofs.lemmas.List.Elements.{All-push}
use Rattle.gather_core.specs.Shares.{Held}
use Rattle.gather_core.specs.Covering.{all_games, Covers}
use Rattle.harvest_core.specs.Working.{IsOfInput}
use Rattle.harvest_core.specs.Inner.Working.{IsShareOfGames}
use Rattle.game_core.specs.Games.{HasReadAll}
use Rattle.harvest_core.specs.Inner.Threads.{HasTaken}
use Rattle.harvest_core.proofs.Joined.{some_end, covers_all}
use Rattle.harvest_core.proofs.threads.joined.Goals as goal

pub returns-clause-counts : goal.returns-clause-counts
returns-clause-counts c =
    let shared = c.args.shared.now in
    let reading = c.args.reading in
    let many = length c.args.all.items in
    let j = c.requires.reading in
    let own = c.take_up.new.endpoint in
    let shares = c.in_ok-shares.shares.items in
    let mine = c.in_ok-counted.field-0 in
    let h : HasTaken shared reading.own.endpoint many [] own shares = c.in_ok-shares.ensures.taken in
    let of : IsShareOfGames shared (j.reading_is.back ++ reading.own.endpoint.drawn) mine =
    subst (λ r. IfOk r (IsShareOfGames shared (j.reading_is.back ++ reading.own.endpoint.drawn))) c.in_ok-counted.was j.reading_is.counted.0 in
    let read : HasReadAll shared.bytes.now reading.report =
    subst (λ r. OnOk r (HasReadAll shared.bytes.now reading.report)) c.in_ok-outcome.was j.reading_is.all in
    let items : c.push.new.self.items ≡ shares ++ mine ∷ [] = c.in_ok-push.ensures.items in
    let P = IsOfInput shared.bytes.now shared.kinds in
    record {
      shares = subst (All P) (sym items) (All-push P shares mine h.shares_are of.of_input);
      report = read;
      covers = subst (λ (all : List Held). Covers reading.report.games (all_games all)) (sym items)
          (covers_all shared many reading own shares j h mine of (c.settle.ensures.all (some_end shared many reading own shares j h)));
    }
