-- The hits that are looked for in an input.
use Rattle.std.specs.Prelude.{ℕ, max, List, Option, Some, None}
use Rattle.game_core.specs.declared.reports.Report.{Report}
use Rattle.hits_core.specs.declared.games.Game.{Game}
use Rattle.hits_core.specs.declared.hits.Hit.{Hit}
use Rattle.hits_core.specs.declared.searches.Search.{Search}
use Rattle.hits_core.specs.Inner.Parts.{IsPart}
use Rattle.hits_core.specs.Inner.Reading.{HasReadAll}

-- as many are looked for as are asked for, and one at least
abbrev pub limit_of : Option ℕ → Option ℕ
limit_of None = None
limit_of (Some most) = Some (max most 1)

-- these are the games of an input, and the first hits in them
pub record AreHitsIn (search : Search) (words input : List ℕ) (games : List Game) (report : Report) (hits : List Hit) : Type 0 where
  pub read : HasReadAll input search.first games report
  pub part : IsPart search.sought words (limit_of search.most) games hits
