-- The text for a terminal: for each pattern a line, its board, and an empty line.
use Rattle.std.specs.Prelude.{ℕ, List, [], ◌∷◌, ◌++◌, take, drop, slice_set, codes}
use Rattle.std.specs.List.{flat_map}
use Rattle.std.specs.Fmt.{decimal}
use Rattle.shape_core.specs.Glyph.{glyphs_of}
use Rattle.shape_core.specs.Word.{kind_of}
use Rattle.shape_core.specs.declared.words.Kind.{Kind}
use Rattle.shape_core.specs.declared.words.Kind.TheVariants as kind
use Rattle.shape_dict.specs.Text.{word_text, line_feed}
use Rattle.shape_dict.specs.declared.entries.Entry.{Entry}
use Rattle.sheet_core.specs.declared.asked.Asked.{Asked}
use Rattle.sheet_core.specs.declared.rows.Row.{Row}
use Rattle.sheet_core.specs.Empty.{empty_text}
use Rattle.sheet_core.specs.Pieces.{hundredths_of, percent_text, first_text, ranked}

-- a row of a board: how far it is indented, its first cell, and how many cells it has
abbrev pub row : ℕ → ℕ → ℕ → Row
row indent first count = record { indent = indent; first = first; count = count }

-- the rows of a kind from the top
abbrev pub rows_of : Kind → List Row
rows_of kind.Square = row 0 0 5 ∷ row 0 5 5 ∷ row 0 10 5 ∷ row 0 15 5 ∷ row 0 20 5 ∷ []
rows_of kind.Diamond =
    row 3 0 1 ∷ row 2 1 3 ∷ row 1 4 5 ∷ row 0 9 7 ∷ row 1 16 5 ∷ row 2 21 3 ∷ row 3 24 1 ∷ []

-- the glyphs of a word's cells, and `*` for the point itself, which is cell 12
unfoldable pub marked_glyphs : ℕ → List ℕ
marked_glyphs word = slice_set (glyphs_of word) 12 42

-- a row of these glyphs
abbrev pub row_text : List ℕ → Row → List ℕ
row_text glyphs row = take row.indent (codes "   ") ++ take row.count (drop row.first glyphs) ++ line_feed

-- the rows of a word
abbrev pub board_text : ℕ → List ℕ
board_text word = flat_map (row_text (marked_glyphs word)) (rows_of (kind_of word))

-- how often a pattern was there and was played, and its urgency
abbrev pub uses_text : Entry → List ℕ
uses_text entry =
    codes " there " ++ decimal entry.there ++ codes " played " ++ decimal entry.played ++ codes " urgency "
    ++ percent_text (hundredths_of entry)

-- the line of a pattern: its rank, word, uses, and first game where that is known
abbrev pub caption_text : ℕ → Entry → List ℕ
caption_text rank entry =
    decimal rank ++ codes " " ++ word_text entry.shape ++ uses_text entry ++ first_text entry.first ++ line_feed

-- a pattern with its rank
abbrev pub figure_text : ℕ → Entry → List ℕ
figure_text rank entry = caption_text rank entry ++ board_text entry.shape ++ line_feed

-- the chosen patterns, the first with rank 1, or why there is none among these
abbrev pub plain_text : Asked → List Entry → List Entry → List ℕ
plain_text asked entries [] = empty_text asked entries ++ line_feed
plain_text asked entries (entry ∷ chosen) = ranked figure_text 1 (entry ∷ chosen)
