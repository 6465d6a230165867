-- A dictionary's patterns by their first games, and a game of an input that is walked again.
use Rattle.std.specs.Prelude.{◌≡◌, ℕ, ◌<◌, ◌==◌, ◌||◌, nat_eq, nat_lt, Bool, false, List, length, get_or, filter, slice_get, Option, Some, None}
use Rattle.std.specs.HashSet.{HashSet, contains}
use Rattle.std.specs.List.{list_any}
use Rattle.go_record.specs.Actions.{Actions}
use Rattle.game_core.specs.Games.{HasReadAll}
use Rattle.game_core.specs.declared.reports.Report.{Report}
use Rattle.shape_core.specs.declared.words.Kinds.{Kinds}
use Rattle.shape_dict.specs.declared.entries.Entry.{Entry}
use Rattle.tally_core.specs.Inner.Entries.{shapes_of as words_of}
use Rattle.tally_core.specs.Walk.{IsWalk, once_each, shapes_of}
use Rattle.tally_core.specs.declared.meetings.Meeting.{Meeting}
use Rattle.beyond_core.specs.Games.{IsGame}

-- whether a first game is below this one
abbrev pub is_below : ℕ → Option ℕ → Bool
is_below game None = false
is_below game (Some first) = nat_lt first game

-- whether it is this one
abbrev pub is_game : ℕ → Option ℕ → Bool
is_game game None = false
is_game game (Some first) = first == game

-- the entries whose first games are below this one
abbrev pub entries_before : ℕ → List Entry → List Entry
entries_before game entries = filter (λ e. is_below game e.first) entries

-- how many have this one as their first
abbrev pub new_count : ℕ → List Entry → ℕ
new_count game entries = length (filter (λ e. is_game game e.first) entries)

-- how many have each of the games from 0 on as their first
abbrev pub AreCounts : List ℕ → List Entry → Type 0
AreCounts counts entries = (i : ℕ) → i < length counts → get_or counts i 0 ≡ new_count i entries

-- the words of those whose first game is this one
abbrev pub new_words : ℕ → List Entry → List ℕ
new_words game entries = words_of (filter (λ e. is_game game e.first) entries)

-- the set has the words of this list, and no others
abbrev pub HasWords : {S : Type 0} → HashSet ℕ S → List ℕ → Type 0
HasWords set words = (word : ℕ) → contains nat_eq set word ≡ list_any (λ w. word == w) words

-- the words of a list were put into a set besides
abbrev pub HasPut : {S : Type 0} → HashSet ℕ S → List ℕ → HashSet ℕ S → Type 0
HasPut before words after =
    (word : ℕ) → contains nat_eq after word ≡ (contains nat_eq before word || list_any (λ w. word == w) words)

-- all of an input can be read, and it has a game of this number
pub record HasGame (bytes : List ℕ) (game : ℕ) : Type 0 where
  pub report : Report
  pub all : HasReadAll bytes report
  pub inside : game < report.games

-- a walk of the game of this number met this
pub record HasMet (kinds : Kinds) (bytes : List ℕ) (game : ℕ) (meetings : List Meeting) : Type 0 where
  pub actions : Actions
  pub moves : ℕ
  pub written : IsGame bytes game actions
  pub walk : IsWalk kinds actions meetings moves

-- what this is of a walk of the game: at a place, the word among those that a test passes, each where it was first met
pub record IsFoundBy (test : ℕ → Bool) (kinds : Kinds) (bytes : List ℕ) (game place : ℕ) (found : Option ℕ) : Type 0 where
  pub meetings : List Meeting
  pub met : HasMet kinds bytes game meetings
  pub found_is : found ≡ slice_get (filter test (once_each (shapes_of meetings))) place

-- the same of those that this game is the first to have
abbrev pub IsNewAt : Kinds → List ℕ → List Entry → ℕ → ℕ → Option ℕ → Type 0
IsNewAt kinds bytes entries game place found =
    IsFoundBy (λ word. list_any (λ w. word == w) (new_words game entries)) kinds bytes game place found
