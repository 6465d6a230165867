-- Dictionaries of parts, and those of texts that are kept.
use Rattle.std.specs.Prelude.{◌≡◌, ℕ, ◌+◌, ◌<◌, ◌⊎◌, false, List, [], ◌∷◌, ◌++◌, length, take, drop, Option, Some, None}
use Rattle.std.specs.Io.KnownBytes.{Appends, Keeps}
use Rattle.shape_core.specs.declared.words.Kinds.{Kinds}
use Rattle.shape_dict.specs.Contents.{Contents}
use Rattle.shape_dict.specs.Text.{text_of, IsSmall}
use Rattle.shape_dict.specs.declared.entries.Text.{Text}
use Rattle.shape_dict.specs.declared.entries.Text.TheVariants as text
use Rattle.tally_parts.specs.Parts.{IsGood, AreGood, IsDictionaryOfTexts, kinds_for}
use Rattle.tally_parts.specs.Inner.Filling.{IsBegun, IsFilled, waiting_of}
use Rattle.tally_parts.specs.declared.filling.Feed.{Feed}

-- all of the texts can be read
abbrev pub AreAllGood : List (List ℕ) → Type 0
AreAllGood [] = Unit {0}
AreAllGood (text ∷ texts) = IsGood text × AreAllGood texts

-- dictionaries of the texts part by part, with numbers below 2 ^ 64: the first of the first texts, and so on
abbrev pub AreOfParts : Kinds → List (List ℕ) → List Contents → Type 0
AreOfParts kinds texts [] = texts ≡ []
AreOfParts kinds texts (contents ∷ others) = (part : List (List ℕ)) × (rest : List (List ℕ)) × (texts ≡ part ++ rest)
    × IsDictionaryOfTexts kinds part contents × IsSmall contents × AreOfParts kinds rest others

-- where it is known what is kept at a number, it is this text
abbrev pub IsTextThere : Option (List ℕ) → Contents → Type 0
IsTextThere None contents = Unit {0}
IsTextThere (Some bytes) contents = bytes ≡ text_of text.Three contents

-- from a number on, the texts of these dictionaries are kept
abbrev pub AreTextsThere : (ℕ → Option (List ℕ)) → ℕ → List Contents → Type 0
AreTextsThere bytes from [] = Unit {0}
AreTextsThere bytes from (contents ∷ others) = IsTextThere (bytes from) contents × AreTextsThere bytes (from + 1) others

-- one text more is kept, that of a dictionary
pub record IsKept (number : ℕ) (bytes : ℕ → Option (List ℕ)) (number_after : ℕ) (bytes_after : ℕ → Option (List ℕ)) (contents : Contents) : Type 0 where
  pub one_more : number_after ≡ number + 1
  pub others : (n : ℕ) → n < number → bytes_after n ≡ bytes n
  pub last : IsTextThere (bytes_after number) contents

-- the texts of dictionaries of these texts, part by part, are what is kept
pub record ArePartsKept (kinds : Kinds) (texts : List (List ℕ)) (number : ℕ) (bytes : ℕ → Option (List ℕ)) : Type 0 where
  pub dictionaries : List Contents
  pub of_parts : AreOfParts kinds texts dictionaries
  pub many : length dictionaries ≡ number
  pub there : AreTextsThere bytes 0 dictionaries

-- of the texts that were read the dictionaries of the good ones are kept, but for one that waits
pub record IsSpilled (kinds : Kinds) (all : List (List ℕ)) (feed : Feed) (number : ℕ) (bytes : ℕ → Option (List ℕ)) : Type 0 where
  pub begun : IsBegun all feed
  pub read : List (List ℕ)
  pub good : List (List ℕ)
  pub in_parts : List (List ℕ)
  pub are_read : all ≡ read ++ drop feed.next all
  pub are_good : AreGood read good
  pub parted : good ≡ in_parts ++ waiting_of feed
  pub kept : ArePartsKept kinds in_parts number bytes

-- the same but for the texts in the part that was filled last
pub record IsSpilledButPart (kinds : Kinds) (all : List (List ℕ)) (feed : Feed) (part : List ℕ) (number : ℕ) (bytes : ℕ → Option (List ℕ)) : Type 0 where
  pub before : Feed
  pub spilled : IsSpilled kinds all before number bytes
  pub filled : IsFilled all before feed part

-- the same of all parts, and only where one waits are texts left
pub record IsSpilledSoFar (kinds : Kinds) (all : List (List ℕ)) (feed : Feed) (number : ℕ) (bytes : ℕ → Option (List ℕ)) : Type 0 where
  pub spilled : IsSpilled kinds all feed number bytes
  pub ended : feed.waits ≡ false → feed.next ≡ length all

-- nothing is out, or a front of the text
abbrev pub IsCut : List ℕ → Option (List ℕ) → Option (List ℕ) → Type 0
IsCut text before after = Keeps before after ⊎ ((n : ℕ) × Appends before after (take n text))

-- a text of the dictionary of these texts is out
abbrev pub IsTextOut : Text → List (List ℕ) → Option (List ℕ) → Option (List ℕ) → Type 0
IsTextOut kind texts before after = (contents : Contents) × IsDictionaryOfTexts (kinds_for kind) texts contents
    × Appends before after (text_of kind contents)

-- nothing is out, or a front of a text of the dictionary of these texts
abbrev pub IsTextCut : Text → List (List ℕ) → Option (List ℕ) → Option (List ℕ) → Type 0
IsTextCut kind texts before after = Keeps before after ⊎ ((contents : Contents) × (n : ℕ) × IsDictionaryOfTexts (kinds_for kind) texts contents
    × Appends before after (take n (text_of kind contents)))
