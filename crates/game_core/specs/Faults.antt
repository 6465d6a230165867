-- Why the games of an input were not read.
use Rattle.std.specs.Prelude.{ℕ, ◌<◌, ◌≤◌, List, length}
use Rattle.sgf_core.specs.Limit.{most_bytes}
use Rattle.sgf_core.specs.Tree.{GameTree}
use Rattle.sgf_core.specs.Next.{IsNextTree}
use Rattle.sgf_core.specs.Reading.{IsFaultAt}
use Rattle.sgf_core.specs.declared.faults.SgfFault.{SgfFault}
use Rattle.sgf_core.specs.declared.faults.SgfFault.TheVariants as sgf
use Rattle.game_core.specs.Collection.{AreTrees}
use Rattle.game_core.specs.declared.faults.GamesFault.{GamesFault}
use Rattle.game_core.specs.declared.faults.GamesFault.TheVariants as fault

-- a whole tree is next from a place on
abbrev pub IsBeforeTree : List ℕ → ℕ → Type 0
IsBeforeTree bytes from = (at : ℕ) × (end : ℕ) × (tree : GameTree) × IsNextTree bytes from at end tree

-- why no next tree is read from a place on: it has this fault of syntax, or it is whole and memory was wanting for it
abbrev pub IsNextFault : List ℕ → ℕ → GamesFault → Type 0
IsNextFault bytes from fault.Memory = IsBeforeTree bytes from
IsNextFault bytes from (fault.Sgf found) = IsFaultAt bytes from found

-- after trees that can be read, the next one has this fault of syntax
pub record HasFault (bytes : List ℕ) (found : SgfFault) : Type 0 where
  pub trees : List GameTree
  pub end : ℕ
  pub written : AreTrees bytes 0 trees end
  pub fault : IsFaultAt bytes end found

-- after trees that can be read, a whole one is next
pub record HasTree (bytes : List ℕ) : Type 0 where
  pub trees : List GameTree
  pub end : ℕ
  pub written : AreTrees bytes 0 trees end
  pub next : IsBeforeTree bytes end

-- the input is too large, or it is not, and has this fault of syntax, or memory was wanting, which is asked for only where a
-- whole tree is next
abbrev pub IsGamesFault : List ℕ → GamesFault → Type 0
IsGamesFault bytes fault.Memory = (length bytes ≤ most_bytes) × HasTree bytes
IsGamesFault bytes (fault.Sgf sgf.TooLarge) = most_bytes < length bytes
IsGamesFault bytes (fault.Sgf found) = (length bytes ≤ most_bytes) × HasFault bytes found
