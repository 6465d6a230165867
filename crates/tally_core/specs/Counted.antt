-- What a collection is counted as: the dictionary of its games, and how many of its trees are games, are of other games,
-- and have a fault.
use Rattle.std.specs.Prelude.{◌≢◌, ℕ, ◌<◌, ◌≤◌, List, length, map, All, AllPairs}
use Rattle.sgf_core.specs.Tree.{GameTree}
use Rattle.sgf_core.specs.Next.{HasNoTree}
use Rattle.sgf_core.specs.declared.faults.SgfFault.TheVariants as sgf
use Rattle.game_core.specs.Collection.{AreTrees, record_of_tree, games_among}
use Rattle.game_core.specs.Reports.{IsReport}
use Rattle.game_core.specs.Faults.{HasFault}
use Rattle.shape_core.specs.declared.words.Kinds.{Kinds}
use Rattle.tally_core.specs.Counts.{Replayed}
use Rattle.tally_core.specs.Games.{there_sum, IsDictionaryOf}
use Rattle.tally_core.specs.Collection.{AreReplayed}
use Rattle.tally_core.specs.declared.collections.Counted.{Counted}
use Rattle.tally_core.specs.declared.faults.TallyFault.{TallyFault}
use Rattle.tally_core.specs.declared.faults.TallyFault.TheVariants as fault
use Rattle.sgf_core.specs.Limit.{most_bytes}

-- the input's trees, all of them, were counted
pub record IsCounted (kinds : Kinds) (bytes : List ℕ) (counted : Counted) : Type 0 where
  pub trees : List GameTree
  pub end : ℕ
  pub games : List Replayed
  pub small : length bytes ≤ most_bytes
  pub written : AreTrees bytes 0 trees end
  pub no_more : HasNoTree bytes end
  pub replayed : AreReplayed (games_among (map record_of_tree trees)) games
  pub dictionary : IsDictionaryOf kinds games counted.dictionary
  pub reported : IsReport trees counted.report

-- the games of the input's first trees have more patterns than this: a list of different ones is longer
pub record HasMore (kinds : Kinds) (bytes : List ℕ) (most : ℕ) : Type 0 where
  pub trees : List GameTree
  pub end : ℕ
  pub games : List Replayed
  pub written : AreTrees bytes 0 trees end
  pub replayed : AreReplayed (games_among (map record_of_tree trees)) games
  pub shapes : List ℕ
  pub more : most < length shapes
  pub different : AllPairs (λ one other. one ≢ other) shapes
  pub there : All (λ shape. 0 < there_sum kinds games shape) shapes

-- why a collection was not counted: its size or its syntax, or memory was wanting. No count of an input that is not too
-- large passes 2 ^ 64 - 1.
abbrev pub IsCountFault : List ℕ → TallyFault → Type 0
IsCountFault bytes fault.BadSettings = ⊥
IsCountFault bytes fault.Memory = Unit {0}
IsCountFault bytes (fault.Sgf sgf.TooLarge) = most_bytes < length bytes
IsCountFault bytes (fault.Sgf found) = HasFault bytes found
IsCountFault bytes fault.Overflow = ⊥
