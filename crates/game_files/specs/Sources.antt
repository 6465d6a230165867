-- What the words of a command line mean, as far as the system doesn't say it.
use Rattle.std.specs.Prelude.{◌≡◌, ◌≢◌, ◌⊎◌, ℕ, true, List, [], ◌∷◌, ◌++◌, map, codes, String, string_bytes}
use Rattle.std.specs.Global.{Global}
use Rattle.std.specs.List.Sorted.{IsStrictlySortedBy}
use Rattle.std.specs.String.{string_cmp}
use Rattle.game_files.specs.declared.flaws.Flaw.{Flaw}
use Rattle.game_files.specs.declared.flaws.Why.{Why}
use Rattle.game_files.specs.declared.words.Source.{Source}
use Rattle.game_files.specs.declared.words.Source.TheVariants as source
use Rattle.game_files.specs.Flaws.{status_of}
use Rattle.game_files.specs.Names.{is_game_name, HasName}

-- each is a file of games
abbrev pub AreGames : List (String Global) → Type 0
AreGames files = (name : List ℕ) → HasName files name → is_game_name name ≡ true

-- files of games, in the order of their names, each once
pub record AreGameFiles (files : List (String Global)) : Type 0 where
  pub sorted : IsStrictlySortedBy string_cmp files
  pub games : AreGames files

-- the file of this name
abbrev pub IsFile : List ℕ → List Source → Type 0
IsFile word all = (name : String Global) × (string_bytes name ≡ word) × (all ≡ source.File name ∷ [])

-- this is what is wrong with the file or folder of this name
abbrev pub IsFlawOf : List ℕ → Why → List Source → Type 0
IsFlawOf word why all = (flaw : Flaw) × (string_bytes flaw.name ≡ word) × (flaw.why ≡ why) × (all ≡ source.Flaw flaw ∷ [])

-- why the file of this name can't be read
abbrev pub IsUnseen : List ℕ → List Source → Type 0
IsUnseen word all = (why : Why) × (status_of why ≡ 6) × IsFlawOf word why all

-- a folder: what is wrong with names of it or with itself, and then the files of games below it; never nothing
pub record IsBelow (all : List Source) : Type 0 where
  pub flaws : List Flaw
  pub files : List (String Global)
  pub are : all ≡ map source.Flaw flaws ++ map source.File files
  pub games : AreGameFiles files
  pub some : all ≢ []

-- what one word means: `-` is standard input, and any other word a file, a folder, or what can't be looked at
abbrev pub IsMeant : List ℕ → List Source → Type 0
IsMeant word all =
    ((word ≡ codes "-") × (all ≡ source.Input ∷ [])) ⊎ ((word ≢ codes "-") × (IsFile word all ⊎ (IsUnseen word all ⊎ IsBelow all)))

-- what words mean, each in its place
abbrev pub AreMeant : List (List ℕ) → List Source → Type 0
AreMeant [] all = all ≡ []
AreMeant (word ∷ words) all = (first : List Source) × (rest : List Source) × IsMeant word first × AreMeant words rest × (all ≡ first ++ rest)
