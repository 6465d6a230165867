-- Which names can't be those of a dictionary, by what the system tells of them.
use Rattle.std.specs.Prelude.{◌≡◌, ◌⊎◌, ◌<◌, ℕ, List, Some, option_map, slice_get, vec_len}
use Rattle.std.specs.Borrow.{Bor}
use Rattle.shape_merge.specs.declared.files.FileIdentity.{FileIdentity}
use Rattle.shape_merge.specs.declared.files.FileIdentity.TheVariants as identity
use Rattle.shape_merge.specs.declared.files.Sights.{Sights}
use Rattle.shape_merge.specs.declared.words.Asked.{Asked}

-- there is something told of each dictionary's name
abbrev pub AreOf : Asked → Sights → Type 0
AreOf asked sights = vec_len sights.dictionaries ≡ vec_len asked.names

-- what a dictionary's name stands for is no regular file, or the very file that is written
abbrev pub IsRefused : FileIdentity → FileIdentity → Type 0
IsRefused identity.Nothing target = ⊥
IsRefused (identity.File device number) target = target ≡ identity.File device number
IsRefused identity.Other target = Unit {0}

-- this is the name of the file that is written
abbrev pub IsWritten : Asked → List ℕ → Type 0
IsWritten asked name = option_map (λ out. out.now) asked.out ≡ Some name

-- a dictionary of this name, which stands for this, can't be joined
abbrev pub IsBarred : Asked → FileIdentity → List ℕ → FileIdentity → Type 0
IsBarred asked target name dictionary = IsWritten asked name ⊎ IsRefused dictionary target

-- this is the name of the dictionary of this number, from 0, which can't be joined
pub record IsBarredAt (asked : Asked) (sights : Sights) (k : ℕ) (name : Bor (List ℕ)) : Type 0 where
  pub dictionary : FileIdentity
  pub named : slice_get asked.names.items k ≡ Some name
  pub identified : slice_get sights.dictionaries.items k ≡ Some dictionary
  pub barred : IsBarred asked sights.target name.now dictionary

-- none of the dictionaries below this number is such a one
abbrev pub AreFreeBelow : Asked → Sights → ℕ → Type 0
AreFreeBelow asked sights n = (k : ℕ) → k < n → (name : Bor (List ℕ)) → IsBarredAt asked sights k name → ⊥

-- all dictionaries can be joined
abbrev pub AreFree : Asked → Sights → Type 0
AreFree asked sights = AreFreeBelow asked sights (vec_len asked.names)

-- this is the first name of a dictionary that can't be joined
abbrev pub IsFirstBarred : Asked → Sights → Bor (List ℕ) → Type 0
IsFirstBarred asked sights name = (k : ℕ) × IsBarredAt asked sights k name × AreFreeBelow asked sights k
