-- Where the cells of a pattern are drawn.
use Rattle.std.specs.Prelude.{ℕ, ℤ, pos, negsuc, ◌+◌, ◌-◌, ◌==◌, not, Bool, List, [], ◌∷◌, map}
use Rattle.shape_core.specs.Glyph.{glyphs_of}
use Rattle.shape_core.specs.Offset.{Offset, offsets_of}
use Rattle.shape_core.specs.Word.{kind_of}
use Rattle.shape_core.specs.declared.words.Kind.{Kind}
use Rattle.sheet_core.specs.declared.cells.Cell.{Cell}
use Rattle.sheet_core.specs.declared.cells.Place.{Place}

-- the middle of a pattern is drawn at column 3 and row 3
abbrev pub drawn_at : ℤ → ℕ
drawn_at (pos n) = n + 3
drawn_at (negsuc n) = 2 - n

abbrev pub place_of : Offset → Place
place_of offset = record { column = drawn_at offset.dx; row = drawn_at offset.dy }

-- the places of the 25 cells of a kind
abbrev pub cell_places : Kind → List Place
cell_places kind = map place_of (offsets_of kind)

-- cells at these places with these glyphs
abbrev pub cells_at : List Place → List ℕ → List Cell
cells_at [] glyphs = []
cells_at (place ∷ places) [] = []
cells_at (place ∷ places) (glyph ∷ glyphs) =
    (record { column = place.column; row = place.row; glyph = glyph }) ∷ cells_at places glyphs

-- the cells of a word
unfoldable pub cells_of : ℕ → List Cell
cells_of word = cells_at (cell_places (kind_of word)) (glyphs_of word)

-- the cell is on the board: its glyph is not `#`
abbrev pub is_on : Cell → Bool
is_on cell = not (cell.glyph == 35)
