-- Definitions that private contracts alone use, beside those of `Joins`.
use Rattle.std.specs.Prelude.{ℕ, ◌≤◌, ◌⊎◌, List, length, take}
use Rattle.shape_dict.specs.Contents.{Contents}
use Rattle.shape_dict.specs.Reading.{IsTextOf, IsFrontFault}
use Rattle.shape_dict.specs.Join.{IsJoin, IsJoinFault, IsOverflow}
use Rattle.shape_dict.specs.declared.faults.DictFault.{DictFault}

-- the bytes begin with a text of this dictionary, of this length in bytes
pub record IsNextText (bytes : List ℕ) (count : ℕ) (next : Contents) : Type 0 where
  pub within : count ≤ length bytes
  pub is_text : IsTextOf next (take count bytes)

-- the bytes begin with a text of a dictionary, and `both` is the join of `sum` and it, no sum of which is too large
abbrev pub IsAdded : Contents → List ℕ → ℕ → Contents → Type 0
IsAdded sum bytes count both =
    (next : Contents) × IsNextText bytes count next × (IsOverflow sum next → ⊥) × IsJoin sum next both

-- why there is no such join
abbrev pub IsAddFault : Contents → List ℕ → DictFault → Type 0
IsAddFault sum bytes found =
    IsFrontFault bytes found ⊎ ((count : ℕ) × (next : Contents) × IsNextText bytes count next × IsJoinFault sum next found)
