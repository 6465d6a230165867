-- Games that were read.
use Rattle.std.specs.Prelude.{ℕ, ◌<◌, ◌≤◌, List, length}
use Rattle.sgf_core.specs.Tree.{GameTree}
use Rattle.sgf_core.specs.Next.{HasNoTree}
use Rattle.sgf_core.specs.Limit.{most_bytes}
use Rattle.sgf_core.specs.declared.faults.SgfFault.TheVariants as sgf
use Rattle.game_core.specs.Faults.{HasFault}
use Rattle.game_core.specs.Games as of_core
use Rattle.game_core.specs.declared.reports.Report.{Report}
use Rattle.tally_core.specs.declared.faults.TallyFault.{TallyFault}
use Rattle.tally_core.specs.declared.faults.TallyFault.TheVariants as fault
use Rattle.hits_core.specs.declared.games.Game.{Game}
use Rattle.hits_core.specs.Hits.{AreGames}

-- these are the games of the trees up to a place, of which the first has this number
pub record ReadsUpTo (bytes : List ℕ) (first place : ℕ) (games : List Game) : Type 0 where
  pub trees : List GameTree
  pub of_trees : AreGames bytes first 0 trees place games

-- these are all games of an input, and what its trees are
pub record HasReadAll (bytes : List ℕ) (first : ℕ) (games : List Game) (report : Report) : Type 0 where
  pub few : length bytes ≤ most_bytes
  pub end : ℕ
  pub read : ReadsUpTo bytes first end games
  pub no_more : HasNoTree bytes end
  pub reported : of_core.HasReadAll bytes report

-- why the games of an input were not read: it is too large, which comes first, or has this fault of syntax, or memory was
-- wanting, or a game's number would be over 2 ^ 64 - 1
abbrev pub IsReadFault : List ℕ → TallyFault → Type 0
IsReadFault bytes fault.BadSettings = ⊥
IsReadFault bytes fault.Memory = Unit {0}
IsReadFault bytes (fault.Sgf sgf.TooLarge) = most_bytes < length bytes
IsReadFault bytes (fault.Sgf found) = (length bytes ≤ most_bytes) × HasFault bytes found
IsReadFault bytes fault.Overflow = Unit {0}
