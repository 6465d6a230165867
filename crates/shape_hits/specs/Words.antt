-- What the words of the command line ask for.
use Rattle.std.specs.Prelude.{◌≡◌, ◌≢◌, ◌⊎◌, ◌^◌, ℕ, List, [], ◌++◌, map, Option, Some, None, codes, option_map, option_to_list}
use Rattle.clap.specs.Words.{Row, first_of}
use Rattle.command_lines.specs.Patterns.{IsKindOf, IsSpelled, IsSpellingFault}
use Rattle.command_lines.specs.Values.{HasNoNumber, HasNoOptionalNumber, IsChoiceOf, IsNumberOf, IsOptionalNumberOf, words_in}
use Rattle.shape_core.specs.declared.words.Kind.TheVariants as kind
use Rattle.engine_core.specs.declared.faults.RunFault.{RunFault}
use Rattle.engine_core.specs.declared.faults.RunFault.TheVariants as fault
use Rattle.hits_core.specs.declared.searches.Shown.{Shown}
use Rattle.hits_core.specs.declared.searches.Shown.TheVariants as shown
use Rattle.hits_core.specs.declared.searches.Sought.{Sought}
use Rattle.hits_core.specs.declared.searches.Sought.TheVariants as sought
use Rattle.hits_core.specs.declared.searches.Spelling.{Spelling}
use Rattle.hits_core.specs.declared.searches.Spelling.TheVariants as spelling
use Rattle.shape_hits.specs.declared.words.Asked.{Asked}

-- whether the flag was given says which times are listed
abbrev pub IsSoughtOf : List Row → Sought → Type 0
IsSoughtOf rows found = IsChoiceOf (codes "there") sought.There sought.Played rows found

-- whether the flag was given says how points are written
abbrev pub IsSpellingOf : List Row → Spelling → Type 0
IsSpellingOf rows found = IsChoiceOf (codes "coordinates") spelling.Coordinates spelling.Letters rows found

-- the values ask for this pattern; or a file of words is named, and it is not said that a pattern is a diamond
abbrev pub ArePatterns : List Row → Option ℕ → Type 0
ArePatterns rows (Some shape) = (first_of (codes "words") rows ≡ None) × IsSpelled rows shape
ArePatterns rows None = (first_of (codes "words") rows ≢ None) × IsKindOf rows kind.Square

-- the first word or two, where a file of words is named and no pattern is spelled by them
abbrev pub first_names : Option (List ℕ) → List Row → List (List ℕ)
first_names None rows = []
first_names (Some words) rows = option_to_list (first_of (codes "glyphs") rows) ++ option_to_list (first_of (codes "colour") rows)

-- the names of collections and folders: the words after those of a pattern, and where a file of words is named all words
abbrev pub names_of : List Row → List (List ℕ)
names_of rows = first_names (first_of (codes "words") rows) rows ++ words_in (codes "files") rows

-- the words of a list are shown
abbrev pub shown_for : Option ℕ → Shown
shown_for (Some shape) = shown.Places
shown_for None = shown.WordsToo

-- the values ask for this search
pub record IsAsked (rows : List Row) (asked : Asked) : Type 0 where
  pub patterns : ArePatterns rows asked.shape
  pub words : option_map (λ name. name.now) asked.words ≡ first_of (codes "words") rows
  pub sought : IsSoughtOf rows asked.search.sought
  pub most : IsOptionalNumberOf (codes "most") rows asked.search.most
  pub shown : asked.search.shown ≡ shown_for asked.shape
  pub spelling : IsSpellingOf rows asked.search.spelling
  pub first : asked.search.first ≡ 0
  pub no_name : asked.search.name ≡ None
  pub workers : IsNumberOf (codes "workers") rows asked.workers
  pub folder : option_map (λ name. name.now) asked.folder ≡ first_of (codes "sgf") rows
  pub names : map (λ name. name.now) asked.names.items ≡ names_of rows

-- a file of words is named, and it is said that a pattern is a diamond
abbrev pub HasPatternBeside : List Row → Type 0
HasPatternBeside rows = (first_of (codes "words") rows ≢ None) × IsKindOf rows kind.Diamond

-- why there are no patterns to look for: no file of words is named and no pattern is spelled, or one is named beside a diamond
abbrev pub IsPatternsFault : List Row → RunFault → Type 0
IsPatternsFault rows found =
    ((first_of (codes "words") rows ≡ None) × IsSpellingFault rows found) ⊎ ((found ≡ fault.Usage) × HasPatternBeside rows)

-- why there is nothing to do: there are no patterns to look for, or a number is missing or too large
abbrev pub IsSearchFault : List Row → RunFault → Type 0
IsSearchFault rows found =
    IsPatternsFault rows found
    ⊎ ((found ≡ fault.Usage) × (HasNoOptionalNumber (codes "most") rows ⊎ HasNoNumber (2 ^ 8) (codes "workers") rows))
