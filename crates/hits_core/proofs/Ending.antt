-- What a run comes to.
use Rattle.std.proofs.Common.{◌≡◌, ◌≢◌, ℕ, zero, suc, ◌<◌, ◌≤◌, max, inl, inr, ⊎_elim, List, [], ◌∷◌, length, take, Option, Some, None, refl, ap, sym, subst, ◌∙◌, arith}
use Rattle.std.proofs.lemmas.List.{take-take}
use Rattle.engine_core.specs.declared.boards.Outcome.{Outcome}
use Rattle.game_core.specs.Games.{HasReadAll}
use Rattle.game_core.specs.declared.reports.Report.{Report}
use Rattle.engine_core.specs.declared.boards.Outcome.TheVariants as outcome
use Rattle.hits_core.specs.declared.hits.Hit.{Hit}
use Rattle.hits_core.specs.declared.searches.Search.{Search}
use Rattle.hits_core.specs.declared.games.Game.{Game}
use Rattle.hits_core.specs.declared.results.Results.{Results}
use Rattle.hits_core.specs.Hits.{first_of, AreEnough, AreFirstHits, AreGames}
use Rattle.hits_core.specs.Runs.{AreResults, IsAnswer}
use Rattle.hits_core.specs.Inner.Finding.{IsFull}
use Rattle.hits_core.specs.Inner.Runs.{limit_of, AreHitsIn}

-- of those that are looked for the first are written
first-limit : {A : Type 0} (most : Option ℕ) (xs : List A) → first_of most (first_of (limit_of most) xs) ≡ first_of most xs
first-limit None xs = refl
first-limit (Some n) xs = take-take n (max n 1) xs (omega arith)

some-full : (hits : List Hit) (n : ℕ) → max n 1 ≤ length hits → hits ≢ []
some-full [] n full none = absurd (omega arith)
some-full (hit ∷ hits) n full none = absurd (cc)

enough-full : (most : Option ℕ) (hits : List Hit) → IsFull (limit_of most) hits → AreEnough most hits
enough-full None hits full = full
enough-full (Some n) hits full = (omega arith, some-full hits n full)

-- one hit is looked for at least, so none is found only where there is none
none-found : (n : ℕ) (hits : List Hit) → 0 < n → take n hits ≡ [] → hits ≡ []
none-found zero hits some none = absurd (omega arith)
none-found (suc n) [] some none = refl
none-found (suc n) (hit ∷ hits) some none = absurd (cc)

take-none : {A : Type 0} (n : ℕ) → take {A = A} n [] ≡ []
take-none zero = refl
take-none (suc n) = refl

answered : (most : Option ℕ) (found : Outcome) (hits all : List Hit) → hits ≡ first_of (limit_of most) all → IsAnswer found hits → IsAnswer found all
answered None found hits all cut is = subst (IsAnswer found) cut is
answered (Some n) outcome.NotFound hits all cut is = none-found (max n 1) all (omega arith) (sym cut ∙ is)
answered (Some n) outcome.Done hits all cut is = λ none. is (cut ∙ ap (take (max n 1)) none ∙ take-none (max n 1))

pub are-results : (search : Search) (words input : List ℕ) (games : List Game) (report : Report) (hits : List Hit) (results : Results) → AreHitsIn search words input games report hits →
    results.games.items ≡ games → results.report ≡ report → results.hits.items ≡ first_of search.most hits → IsAnswer results.outcome hits → AreResults search words input results
are-results search words input games report hits results are games_are report_is listed is =
    let read = are.read in
    let part = are.part in
    record {
      few = read.few;
      trees = read.read.trees;
      end = read.end;
      of_trees = subst (λ (gs : List Game). AreGames input search.first 0 read.read.trees read.end gs) (sym games_are) read.read.of_trees;
      no_more = read.no_more;
      reported = subst (HasReadAll input) (sym report_is) read.reported;
      hits = part.found;
      of_games = subst (λ (gs : List Game). AreFirstHits search.sought words search.most gs part.found) (sym games_are) (record {
        front = part.front;
        rest = part.rest;
        all = part.all;
        of_front = part.of_front;
        enough = ⊎_elim (λ (none : part.rest ≡ []). inl none) (λ (full : IsFull (limit_of search.most) part.found). inr (enough-full search.most part.found full)) part.enough;
      });
      answered = answered search.most results.outcome hits part.found part.cut is;
      listed = listed ∙ ap (first_of search.most) part.cut ∙ first-limit search.most part.found;
    }
