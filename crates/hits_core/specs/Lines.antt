-- The lines of hits.
use Rattle.std.specs.Prelude.{ℕ, ◌+◌, ◌-◌, ◌/◌, ◌%◌, List, [], ◌∷◌, ◌++◌, Option, None, Some, option_map, nat_lt, min, codes, if◌then◌else◌}
use Rattle.std.specs.Fmt.{decimal}
use Rattle.game_files.specs.Shown.{shown_name}
use Rattle.go_board.specs.declared.points.Point.{Point}
use Rattle.go_board.specs.declared.points.Colour.{Colour}
use Rattle.go_board.specs.declared.points.Colour.TheVariants as colour
use Rattle.shape_dict.specs.Text.{word_text, line_feed}
use Rattle.hits_core.specs.declared.hits.Hit.{Hit}
use Rattle.hits_core.specs.declared.searches.Search.{Search}
use Rattle.hits_core.specs.declared.searches.Shown.{Shown}
use Rattle.hits_core.specs.declared.searches.Shown.TheVariants as shown
use Rattle.hits_core.specs.declared.searches.Spelling.{Spelling}
use Rattle.hits_core.specs.declared.searches.Spelling.TheVariants as spelling

-- the letter of a column or a row, as SGF has them: `a` to `z` for the first 26, then `A` to `Z` for 26 more, which is as many as
-- a board may have
abbrev pub letter_of : ℕ → ℕ
letter_of side = if nat_lt side 26 then 97 + side else 65 + min (side - 26) 25

-- a point as SGF has it: its column, then its row
abbrev pub point_text : Point → List ℕ
point_text point = letter_of point.column ∷ letter_of point.row ∷ []

-- the letter of a column from 0 to 24, as boards have it: A to Z without I
abbrev pub column_letter : ℕ → ℕ
column_letter column = if nat_lt column 8 then 65 + column else 66 + min column 24

-- the letters of a column: one for the first 25, then two, from AA and AB on
abbrev pub column_text : ℕ → List ℕ
column_text column =
    if nat_lt column 25 then column_letter column ∷ []
    else column_letter (column / 25 - 1) ∷ column_letter (column % 25) ∷ []

-- a point of a board of this many rows: its column, then the number of its row from below, from 1
abbrev pub coordinates_text : ℕ → Point → List ℕ
coordinates_text rows point = column_text point.column ++ decimal (rows - point.row)

abbrev pub spelled : Spelling → ℕ → Point → List ℕ
spelled spelling.Letters rows point = point_text point
spelled spelling.Coordinates rows point = coordinates_text rows point

abbrev pub colour_text : Colour → List ℕ
colour_text colour.Black = codes "black"
colour_text colour.White = codes "white"

-- the word that begins a line, where words are shown
abbrev pub front_text : Shown → ℕ → List ℕ
front_text shown.Places word = []
front_text shown.WordsToo word = word_text word ++ codes " "

-- the game and the number of the move
abbrev pub turn_text : Hit → List ℕ
turn_text hit = decimal hit.game ++ codes " " ++ decimal hit.number ++ codes " "

-- the point, who was to move, and the place of the game's tree
abbrev pub where_text : Spelling → Hit → List ℕ
where_text how hit = spelled how hit.rows hit.at ++ codes " " ++ colour_text hit.mover ++ codes " " ++ decimal hit.place

-- the end of a line: the name of the file, where there is one
abbrev pub ending : Option (List ℕ) → List ℕ
ending None = line_feed
ending (Some name) = codes " " ++ shown_name name ++ line_feed

-- the line of a hit
abbrev pub line_text : Search → Hit → List ℕ
line_text search hit =
    front_text search.shown hit.word ++ turn_text hit ++ where_text search.spelling hit ++ ending (option_map (λ name. name.now) search.name)
