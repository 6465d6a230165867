-- Games that were met one after another, and which of them an earlier one is like.
use Rattle.std.specs.Prelude.{◌≡◌, ◌≢◌, ◌⊎◌, ℕ, List, [], ◌∷◌, ◌++◌, Option, Some, None, option_map, if◌then◌else◌}
use Rattle.std.specs.Fmt.{decimal}
use Rattle.std.specs.Str.{bytes_eq}
use Rattle.game_files.specs.Shown.{shown_name}
use Rattle.go_record.specs.Actions.{Actions}
use Rattle.shape_dict.specs.Text.{line_feed}
use Rattle.twins_core.specs.Codes.{record_code}

-- a game: its record, which is the board's size with the setup and the moves, its number, where its tree begins and ends, and the
-- name of its file, where it has one
pub record Met : Type 0 where
  pub game : Actions
  pub number : ℕ
  pub from : ℕ
  pub to : ℕ
  pub name : Option (List ℕ)

-- this is the first of these games that has this record, if any has
abbrev pub IsFirst : List Met → Actions → Option Met → Type 0
IsFirst [] game found = found ≡ None
IsFirst (met ∷ others) game found = ((met.game ≡ game) × (found ≡ Some met)) ⊎ ((met.game ≢ game) × IsFirst others game found)

abbrev pub tab : List ℕ
tab = 9 ∷ []

-- where a tree begins and ends
abbrev pub place_text : Met → List ℕ
place_text met = tab ++ decimal met.from ++ tab ++ decimal met.to

-- the name of a file, where there is one
abbrev pub name_text : Option (List ℕ) → List ℕ
name_text None = []
name_text (Some name) = tab ++ shown_name name

-- the line of a game and the first that has its record: both numbers, both places, and the names of both files
abbrev pub line_text : Met → Met → List ℕ
line_text met first =
    decimal met.number ++ tab ++ decimal first.number ++ place_text met ++ place_text first ++ name_text met.name
    ++ name_text first.name ++ line_feed

-- what is written of a game, where this is the first before it that has its record, if any has
abbrev pub piece : Met → Option Met → List ℕ
piece met None = []
piece met (Some first) = line_text met first

-- what is written of games that were met after others: a line for each whose record an earlier one has, and no other
abbrev pub AreTwins : List Met → List Met → List ℕ → Type 0
AreTwins before [] text = text ≡ []
AreTwins before (met ∷ mets) text =
    (found : Option Met) × (rest : List ℕ)
    × IsFirst before met.game found
    × (text ≡ piece met found ++ rest)
    × AreTwins (before ++ met ∷ []) mets rest

-- what is kept of a record: its code, and where the first game is that has it
pub record Kept : Type 0 where
  pub code : List ℕ
  pub number : ℕ
  pub from : ℕ
  pub to : ℕ
  pub name : Option (List ℕ)

-- what is kept of the record with this code
abbrev pub kept_of : List Kept → List ℕ → Option Kept
kept_of [] code = None
kept_of (kept ∷ others) code = if bytes_eq code kept.code then Some kept else kept_of others code

-- the game of this record that is there
abbrev pub met_there : Actions → Kept → Met
met_there game kept = record { game = game; number = kept.number; from = kept.from; to = kept.to; name = kept.name }

-- the game that is found of a record
abbrev pub found_in : List Kept → Actions → Option Met
found_in all game = option_map (met_there game) (kept_of all (record_code game))

-- what is known of the games that were met: of each record the first that has it
abbrev pub Knows : List Kept → List Met → Type 0
Knows all before = (game : Actions) → IsFirst before game (found_in all game)
