-- What a run writes, and why it doesn't.
use Rattle.std.specs.Prelude.{◌≡◌, ◌≢◌, ℕ, ◌<◌, ◌≤◌, List, [], length}
use Rattle.std.specs.List.{flat_map}
use Rattle.sgf_core.specs.Tree.{GameTree}
use Rattle.sgf_core.specs.Next.{HasNoTree}
use Rattle.sgf_core.specs.Limit.{most_bytes}
use Rattle.sgf_core.specs.declared.faults.SgfFault.TheVariants as sgf
use Rattle.game_core.specs.Faults.{HasFault}
use Rattle.game_core.specs.Games.{HasReadAll}
use Rattle.engine_core.specs.declared.boards.Outcome.{Outcome}
use Rattle.engine_core.specs.declared.boards.Outcome.TheVariants as outcome
use Rattle.engine_core.specs.declared.faults.RunFault.{RunFault}
use Rattle.engine_core.specs.declared.faults.RunFault.TheVariants as fault
use Rattle.hits_core.specs.declared.hits.Hit.{Hit}
use Rattle.hits_core.specs.declared.results.Results.{Results}
use Rattle.hits_core.specs.declared.searches.Search.{Search}
use Rattle.hits_core.specs.Hits.{AreGames, AreFirstHits, first_of}
use Rattle.hits_core.specs.Lines.{line_text}

-- whether there is a hit
abbrev pub IsAnswer : Outcome → List Hit → Type 0
IsAnswer outcome.Done hits = hits ≢ []
IsAnswer outcome.NotFound hits = hits ≡ []

-- these are the games of the input, of at most 2 ^ 28 bytes, what its trees are, and the hits of these words: the first of
-- them, as many as are asked for. Once that number is found, the games after them do not matter.
pub record AreResults (search : Search) (words input : List ℕ) (results : Results) : Type 0 where
  pub few : length input ≤ most_bytes
  pub trees : List GameTree
  pub end : ℕ
  pub of_trees : AreGames input search.first 0 trees end results.games.items
  pub no_more : HasNoTree input end
  pub reported : HasReadAll input results.report
  pub hits : List Hit
  pub of_games : AreFirstHits search.sought words search.most results.games.items hits
  pub answered : IsAnswer results.outcome hits
  pub listed : results.hits.items ≡ first_of search.most hits

-- the text has the lines of the hits that are listed
pub record IsHitsText (search : Search) (words : List ℕ) (results : Results) (input text : List ℕ) : Type 0 where
  pub found : AreResults search words input results
  pub printed : text ≡ flat_map (line_text search) results.hits.items

abbrev pub HasHitsText : Search → List ℕ → List ℕ → List ℕ → Type 0
HasHitsText search words input text = (results : Results) × IsHitsText search words results input text

-- the input is too large, which comes first, or has this fault of syntax, or memory was wanting: for the input itself, or later
abbrev pub IsHitsFault : List ℕ → RunFault → Type 0
IsHitsFault input (fault.Sgf sgf.TooLarge) = most_bytes < length input
IsHitsFault input (fault.Sgf found) = (length input ≤ most_bytes) × HasFault input found
IsHitsFault input fault.Memory = Unit {0}
IsHitsFault input (fault.Record found) = ⊥
IsHitsFault input (fault.Board found) = ⊥
IsHitsFault input (fault.Glyph found) = ⊥
IsHitsFault input (fault.Harvest found) = ⊥
IsHitsFault input (fault.Dict n found) = ⊥
IsHitsFault input fault.Usage = ⊥
IsHitsFault input fault.Read = ⊥
IsHitsFault input (fault.Write written) = ⊥
