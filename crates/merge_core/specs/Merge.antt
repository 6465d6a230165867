-- The join of dictionaries, each of which is a text of its own: what is written of it, and which fault comes first.
use Rattle.std.specs.Prelude.{◌≡◌, ℕ, ◌+◌, ◌<◌, ◌≤◌, ◌⊎◌, List, [], ◌∷◌, ◌++◌, length, take, Option, Some}
use Rattle.std.specs.Io.KnownBytes.{Appends, Keeps}
use Rattle.shape_dict.specs.declared.faults.DictFault.{DictFault}
use Rattle.shape_dict.specs.declared.faults.DictFault.TheVariants as dict_fault
use Rattle.shape_dict.specs.Contents.{Contents, IsDictionary}
use Rattle.shape_dict.specs.Text.{text_of}
use Rattle.shape_dict.specs.Reading.{IsTextOf}
use Rattle.shape_dict.specs.Join.{IsJoinOf, IsJoinFault}
use Rattle.stream_core.specs.Faults.{IsWholeFault}
use Rattle.merge_core.specs.declared.faults.MergeFault.{MergeFault}
use Rattle.merge_core.specs.declared.faults.MergeFault.TheVariants as fault
use Rattle.merge_core.specs.declared.forms.Form.{Form}
use Rattle.merge_core.specs.Least.{kept_of}

-- each of the inputs is a text of its dictionary
abbrev pub AreTexts : List Contents → List (List ℕ) → Type 0
AreTexts [] [] = Unit {0}
AreTexts (contents ∷ others) (input ∷ inputs) = IsTextOf contents input × AreTexts others inputs
AreTexts dictionaries inputs = ⊥

-- the inputs are texts of dictionaries, at least one, and this is their join
pub record IsMerged (inputs : List (List ℕ)) (sum : Contents) : Type 0 where
  pub first : Contents
  pub others : List Contents
  pub texts : AreTexts (first ∷ others) inputs
  pub joined : IsJoinOf first others sum

-- a text of what stays of the join, which is a dictionary again
pub record IsMergeText (form : Form) (inputs : List (List ℕ)) (text : List ℕ) : Type 0 where
  pub sum : Contents
  pub merged : IsMerged inputs sum
  pub dictionary : IsDictionary (kept_of form.least sum)
  pub printed : text ≡ text_of form.text (kept_of form.least sum)

-- the inputs before the one of number `n` are none, or can be joined, and this fault is the first in it as one text
pub record IsBadInput (inputs : List (List ℕ)) (n : ℕ) (found : DictFault) : Type 0 where
  pub before : List (List ℕ)
  pub input : List ℕ
  pub after : List (List ℕ)
  pub parts : inputs ≡ before ++ input ∷ after
  pub at : n ≡ length before + 1
  pub joined : (before ≡ []) ⊎ ((sum : Contents) × IsMerged before sum)
  pub stands : IsWholeFault input found

-- those before it can be joined, and it is a text of a dictionary that cannot be added to them
pub record IsNotAdded (inputs : List (List ℕ)) (n : ℕ) (found : DictFault) : Type 0 where
  pub before : List (List ℕ)
  pub input : List ℕ
  pub after : List (List ℕ)
  pub parts : inputs ≡ before ++ input ∷ after
  pub at : n ≡ length before + 1
  pub sum : Contents
  pub merged : IsMerged before sum
  pub next : Contents
  pub is_text : IsTextOf next input
  pub stands : IsJoinFault sum next found

-- the first fault that is met as the dictionaries are read and joined one after another
abbrev pub IsDictFault : List (List ℕ) → ℕ → DictFault → Type 0
IsDictFault inputs n dict_fault.Overflow = IsNotAdded inputs n dict_fault.Overflow
IsDictFault inputs n dict_fault.MixedKinds = IsNotAdded inputs n dict_fault.MixedKinds
IsDictFault inputs n dict_fault.Memory = ⊥
IsDictFault inputs n found = IsBadInput inputs n found

-- this number of bytes of a text of the join is out, and nothing else
pub record IsFrontOut (form : Form) (inputs : List (List ℕ)) (before after : Option (List ℕ)) (written : ℕ) : Type 0 where
  pub text : List ℕ
  pub is_text : IsMergeText form inputs text
  pub few : written ≤ length text
  pub out : Appends before after (take written text)

-- the same, where some of the text is missing
pub record IsCutOut (form : Form) (inputs : List (List ℕ)) (before after : Option (List ℕ)) (written : ℕ) : Type 0 where
  pub text : List ℕ
  pub is_text : IsMergeText form inputs text
  pub short : written < length text
  pub out : Appends before after (take written text)

-- nothing is out, or a front of a text of the join
abbrev pub IsOut : Form → List (List ℕ) → Option (List ℕ) → Option (List ℕ) → ℕ → Type 0
IsOut form inputs before after written = ((written ≡ 0) × Keeps before after) ⊎ IsFrontOut form inputs before after written

-- how many bytes a fault says are out
abbrev pub written_of : MergeFault → ℕ
written_of fault.Empty = 0
written_of (fault.Dict n found) = 0
written_of (fault.Read n written) = written
written_of (fault.Changed written) = written
written_of (fault.Write written) = written
written_of (fault.Memory written) = written

-- a writer takes exactly this number of bytes
abbrev pub Took : Option (List ℕ) → Option (List ℕ) → ℕ → Type 0
Took before after written = (out : List ℕ) × Appends before after out × (length out ≡ written)

-- what a fault says of known inputs, and of what is out
abbrev pub IsMergeFault : Form → List (List ℕ) → Option (List ℕ) → Option (List ℕ) → MergeFault → Type 0
IsMergeFault form inputs before after fault.Empty = inputs ≡ []
IsMergeFault form inputs before after (fault.Dict n found) = IsDictFault inputs n found
IsMergeFault form inputs before after (fault.Read n written) = IsOut form inputs before after written
IsMergeFault form inputs before after (fault.Changed written) = IsOut form inputs before after written
IsMergeFault form inputs before after (fault.Write written) = IsCutOut form inputs before after written
IsMergeFault form inputs before after (fault.Memory written) = IsOut form inputs before after written

-- sources give these bytes, from this number on
abbrev pub AreInputs : (ℕ → Option (List ℕ)) → ℕ → List (List ℕ) → Type 0
AreInputs bytes from [] = Unit {0}
AreInputs bytes from (input ∷ inputs) = (bytes from ≡ Some input) × AreInputs bytes (from + 1) inputs
