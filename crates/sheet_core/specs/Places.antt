-- Where patterns come from: the lines of hits that begin with their words.
use Rattle.std.specs.Prelude.{ℕ, ◌==◌, Bool, List, [], ◌∷◌, ◌++◌, map, filter, take, drop, codes, if◌then◌else◌}
use Rattle.std.specs.Bool.{nat_eq}
use Rattle.std.specs.List.{flat_map, starts_with}
use Rattle.shape_dict.specs.Text.{word_text}

-- the lines of bytes that follow others of the first line; the last one may be without a line feed
unfoldable pub lines_after : List ℕ → List ℕ → List (List ℕ)
lines_after before [] = before ∷ []
lines_after before (byte ∷ bytes) =
    if byte == 10 then before ∷ lines_after [] bytes else lines_after (before ++ byte ∷ []) bytes

-- whether a line is of a pattern: its word stands first, and a space follows
abbrev pub is_of : ℕ → List ℕ → Bool
is_of word line = starts_with nat_eq line (word_text word ++ codes " ")

-- what follows the word and the space in a line
abbrev pub place_in : List ℕ → List ℕ
place_in line = drop 14 line

-- the first three places of a pattern
abbrev pub places_of : List (List ℕ) → ℕ → List (List ℕ)
places_of lines word = map place_in (take 3 (filter (is_of word) lines))

-- a byte as HTML has it in a text
abbrev pub escaped : ℕ → List ℕ
escaped byte =
    if byte == 38 then codes "&amp;"
    else (if byte == 60 then codes "&lt;"
    else (if byte == 62 then codes "&gt;" else byte ∷ []))

-- an item of a list
abbrev pub place_text : List ℕ → List ℕ
place_text place = codes "<li>" ++ flat_map escaped place ++ codes "</li>"

-- the items of a list
abbrev pub items_text : List (List ℕ) → List ℕ
items_text places = flat_map place_text places

-- a list of places, where there is one
unfoldable pub places_text : List (List ℕ) → List ℕ
places_text [] = []
places_text (place ∷ places) = codes "<ul>" ++ items_text (place ∷ places) ++ codes "</ul>"
