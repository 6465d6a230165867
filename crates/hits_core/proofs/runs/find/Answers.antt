use Rattle.std.proofs.Common.{refl, subst, List}
use Rattle.hits_core.specs.declared.games.Game.{Game}
use Rattle.hits_core.specs.Runs.{IsAnswer}
use Rattle.hits_core.specs.Inner.Parts.{IsPart}
use Rattle.hits_core.proofs.Ending.{are-results}
use Rattle.hits_core.proofs.runs.find.Goals as goal

pub returns-clause-results : goal.returns-clause-results
returns-clause-results g c =
    let search = c.args.search in
    let words = c.args.wanted.now in
    let found = c.in_ok-hits.hits.items in
    let part = subst (λ (gs : List Game). IsPart search.sought words c.limit_of-limit.result gs found) c.deref.ensures.value c.in_ok-hits.ensures.part in
    are-results search words c.args.input.now c.in_ok-games.games.items c.in_ok-games.report found _
    (record { read = c.in_ok-games.ensures.games; part = subst (λ m. IsPart search.sought words m c.in_ok-games.games.items found) c.limit_of-limit.ensures part })
    refl refl c.cut.ensures (subst (IsAnswer c.outcome_of-outcome.result) c.deref-2.ensures.value c.outcome_of-outcome.ensures)
