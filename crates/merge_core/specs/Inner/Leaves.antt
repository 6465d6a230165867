-- What is left of a dictionary that is read, and the dictionaries that sources offer.
use Rattle.std.specs.Prelude.{◌≡◌, ℕ, ◌+◌, Bool, List, [], ◌∷◌, ◌++◌, Option, Some}
use Rattle.shape_dict.specs.declared.entries.Entry.{Entry}
use Rattle.shape_dict.specs.Contents.{Contents}
use Rattle.shape_dict.specs.Reading.{IsTextOf}
use Rattle.stream_core.specs.Streams.{Stream, HasGiven, contents_of}

-- the bytes are a text, of whose entries these are still to come
pub record HasLeft (stream : Stream) (entries : List Entry) : Type 0 where
  pub whole : List ℕ
  pub given : List Entry
  pub contents : Contents
  pub has : HasGiven stream whole given
  pub is_text : IsTextOf contents whole
  pub rest : contents.entries ≡ given ++ entries

-- where these entries come and then the end, the bytes are a text
abbrev pub HasCome : Stream → List Entry → Type 0
HasCome stream entries =
    (whole : List ℕ) → (given : List Entry) → HasGiven stream whole given → IsTextOf (contents_of stream.header (given ++ entries)) whole

-- the text of this number is known, and is one of this dictionary, of this kind
pub record IsOffered (bytes : ℕ → Option (List ℕ)) (kind : Bool) (n : ℕ) (d : Contents) : Type 0 where
  pub text : List ℕ
  pub known : bytes n ≡ Some text
  pub is_text : IsTextOf d text
  pub kinds : d.counts_diamonds ≡ kind

-- the same of texts that follow one another
abbrev pub Offers : (ℕ → Option (List ℕ)) → Bool → ℕ → List Contents → Type 0
Offers bytes kind from [] = Unit {0}
Offers bytes kind from (d ∷ all) = IsOffered bytes kind from d × Offers bytes kind (from + 1) all
