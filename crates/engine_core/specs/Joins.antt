-- What `join` prints: the join of the dictionaries whose texts the input is, one after another.
use Rattle.std.specs.Prelude.{◌≡◌, ◌≢◌, ℕ, zero, suc, ◌+◌, ◌<◌, ◌≤◌, ◌⊎◌, List, [], ◌∷◌, ◌++◌, length}
use Rattle.shape_dict.specs.declared.entries.Text.{Text}
use Rattle.shape_dict.specs.Contents.{Contents}
use Rattle.shape_dict.specs.Text.{text_of}
use Rattle.shape_dict.specs.Reading.{IsTextOf, IsFrontFault}
use Rattle.shape_dict.specs.Join.{IsJoinOf, IsJoinFault}
use Rattle.shape_dict.specs.declared.faults.DictFault.{DictFault}
use Rattle.shape_dict.specs.declared.faults.DictFault.TheVariants as dict_fault
use Rattle.engine_core.specs.declared.faults.RunFault.{RunFault}
use Rattle.engine_core.specs.declared.faults.RunFault.TheVariants as fault
use Rattle.sgf_core.specs.Limit.{most_bytes}

-- the bytes are texts of these dictionaries, one after another
abbrev pub AreTextsOf : List Contents → List ℕ → Type 0
AreTextsOf [] bytes = bytes ≡ []
AreTextsOf (contents ∷ others) bytes =
    (text : List ℕ) × (left : List ℕ) × IsTextOf contents text × (bytes ≡ text ++ left) × AreTextsOf others left

-- the bytes are texts of this number of dictionaries, at least one, and this is their join
pub record IsJoinedText (bytes : List ℕ) (number : ℕ) (sum : Contents) : Type 0 where
  pub first : Contents
  pub others : List Contents
  pub texts : AreTextsOf (first ∷ others) bytes
  pub counted : number ≡ length others + 1
  pub joined : IsJoinOf first others sum

-- the input, of at most 2 ^ 28 bytes, is texts of dictionaries, and what was printed is this text of their join
pub record IsJoinText (kind : Text) (input text : List ℕ) : Type 0 where
  pub number : ℕ
  pub sum : Contents
  pub few : length input ≤ most_bytes
  pub joined : IsJoinedText input number sum
  pub printed : text ≡ text_of kind sum

-- this number of dictionaries was read and joined: none at the front of the input, or some, after which bytes are left
abbrev pub WereJoined : ℕ → List ℕ → List ℕ → Type 0
WereJoined zero read left = read ≡ []
WereJoined (suc n) read left = (sum : Contents) × IsJoinedText read (suc n) sum × (left ≢ [])

-- the input has at most 2 ^ 28 bytes, those before dictionary `n` were read and joined, and this fault is the first in
-- what follows
pub record IsBadText (input : List ℕ) (n : ℕ) (found : DictFault) : Type 0 where
  pub few : length input ≤ most_bytes
  pub before : ℕ
  pub read : List ℕ
  pub left : List ℕ
  pub at : n ≡ before + 1
  pub parts : input ≡ read ++ left
  pub joined : WereJoined before read left
  pub stands : IsFrontFault left found

-- the input has at most 2 ^ 28 bytes, those before dictionary `n` were read and joined, and it was read and cannot be
-- added to them
pub record IsNotAdded (input : List ℕ) (n : ℕ) (found : DictFault) : Type 0 where
  pub few : length input ≤ most_bytes
  pub before : ℕ
  pub read : List ℕ
  pub text : List ℕ
  pub left : List ℕ
  pub sum : Contents
  pub next : Contents
  pub at : n ≡ before + 1
  pub parts : input ≡ read ++ text ++ left
  pub joined : IsJoinedText read before sum
  pub is_text : IsTextOf next text
  pub stands : IsJoinFault sum next found

-- the input, of at most 2 ^ 28 bytes, is the texts of `n` dictionaries, which were read and joined; the text of their join
-- was not written
pub record IsNotWritten (input : List ℕ) (n : ℕ) : Type 0 where
  pub few : length input ≤ most_bytes
  pub sum : Contents
  pub joined : IsJoinedText input n sum

-- the fault is the first that is met as the dictionaries are read and joined one after another; whether the input is too
-- large is judged once, over all of it, and before all else; memory may be wanting after the header of dictionary `n`, as it
-- is added to those before it, and, where it is the last, as the text of the join is written
abbrev pub IsDictionaryFault : List ℕ → ℕ → DictFault → Type 0
IsDictionaryFault input n dict_fault.Memory =
    IsBadText input n dict_fault.Memory ⊎ IsNotAdded input n dict_fault.Memory ⊎ IsNotWritten input n
IsDictionaryFault input n dict_fault.TooLarge = most_bytes < length input
IsDictionaryFault input n dict_fault.Overflow = IsNotAdded input n dict_fault.Overflow
IsDictionaryFault input n dict_fault.MixedKinds = IsNotAdded input n dict_fault.MixedKinds
IsDictionaryFault input n found = IsBadText input n found

-- the same of a run; its own lack of memory is that for the input, and comes whatever the input is
abbrev pub IsJoinRunFault : List ℕ → RunFault → Type 0
IsJoinRunFault input (fault.Dict n found) = IsDictionaryFault input n found
IsJoinRunFault input fault.Memory = Unit {0}
IsJoinRunFault input (fault.Sgf found) = ⊥
IsJoinRunFault input (fault.Record found) = ⊥
IsJoinRunFault input (fault.Board found) = ⊥
IsJoinRunFault input (fault.Glyph found) = ⊥
IsJoinRunFault input (fault.Harvest found) = ⊥
IsJoinRunFault input fault.Usage = ⊥
IsJoinRunFault input fault.Read = ⊥
IsJoinRunFault input (fault.Write written) = ⊥
