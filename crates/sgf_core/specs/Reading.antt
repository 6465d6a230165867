-- What a reader of trees is: the input, the place where it goes on, and the fault that it has met.
use Rattle.std.specs.Prelude.{◌≡◌, ℕ, List, Option, Some}
use Rattle.sgf_core.specs.Tree.{GameTree}
use Rattle.sgf_core.specs.Next.{IsNextTree, IsTruncated, IsBadByte, IsNoValue}
use Rattle.sgf_core.specs.declared.faults.SgfFault.{SgfFault}
use Rattle.sgf_core.specs.declared.faults.SgfFault.TheVariants as fault

pub record Reading : Type 0 where
  pub bytes : List ℕ
  pub from : ℕ
  pub fault : Option SgfFault

-- this fault of syntax is that of the next tree from a place on
abbrev pub IsFaultAt : List ℕ → ℕ → SgfFault → Type 0
IsFaultAt bytes from (fault.Truncated at) = IsTruncated bytes from at
IsFaultAt bytes from (fault.BadByte bad) = (at : ℕ) × IsBadByte bytes from at bad
IsFaultAt bytes from (fault.NoValue bad) = (at : ℕ) × IsNoValue bytes from at bad
IsFaultAt bytes from fault.TooLarge = ⊥
IsFaultAt bytes from fault.Memory = ⊥

-- a lack of memory leaves the reader as it was; another fault is kept
abbrev pub IsAfterFault : Reading → Reading → SgfFault → Type 0
IsAfterFault before after fault.Memory = after ≡ before
IsAfterFault before after found = after ≡ record before { fault = Some found }

-- the fault is that of the next tree, or memory was wanting, which is answered only where a tree is next
abbrev pub IsFaultOrMemory : List ℕ → ℕ → SgfFault → Type 0
IsFaultOrMemory bytes from fault.Memory = (at : ℕ) × (end : ℕ) × (tree : GameTree) × IsNextTree bytes from at end tree
IsFaultOrMemory bytes from found = IsFaultAt bytes from found
