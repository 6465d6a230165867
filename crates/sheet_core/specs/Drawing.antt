-- The drawing of a pattern: a tile under each point on the board, lines that run on where the board does, thick ones at
-- its edge, stones, and the next move.
use Rattle.std.specs.Prelude.{ℕ, ◌==◌, ◌||◌, List, [], ◌++◌, codes, if◌then◌else◌}
use Rattle.std.specs.List.{flat_map}
use Rattle.std.specs.Fmt.{decimal}
use Rattle.shape_core.specs.Glyph.{glyphs_of}
use Rattle.shape_core.specs.Word.{kind_of}
use Rattle.shape_core.specs.declared.words.Kind.{Kind}
use Rattle.shape_core.specs.declared.words.Kind.TheVariants as kind
use Rattle.sheet_core.specs.declared.cells.Cell.{Cell}
use Rattle.sheet_core.specs.declared.sides.Side.{Side}
use Rattle.sheet_core.specs.declared.sides.Side.TheVariants as side
use Rattle.sheet_core.specs.Cells.{cells_of, is_on}
use Rattle.sheet_core.specs.Sides.{ends_at}

-- the part of the plane that is shown, and the background of all cells of a kind
abbrev pub view_text : Kind → List ℕ
view_text kind.Square = codes "<svg viewBox='.5 .5 5 5' role='img'><path class='outside' d='M1 1h5v5h-5z'/>"
view_text kind.Diamond =
    codes "<svg viewBox='-.5 -.5 7 7' role='img'><path class='outside' d='M3 0h1v1h1v1h1v1h1v1h-1v1h-1v1h-1v1h-1v-1h-1v-1h-1v-1h-1v-1h1v-1h1v-1h1z'/>"

-- what is read out in place of the picture: the glyphs
abbrev pub title_text : ℕ → List ℕ
title_text word = codes "<title>" ++ glyphs_of word ++ codes ", X to move in the middle</title>"

-- a pen's move to a cell
abbrev pub move_text : Cell → List ℕ
move_text cell = codes "M" ++ decimal cell.column ++ codes " " ++ decimal cell.row

-- a tile under a cell on the board
abbrev pub tile_text : Cell → List ℕ
tile_text cell = if is_on cell then move_text cell ++ codes "h1v1h-1z" else []

abbrev pub tiles_text : List Cell → List ℕ
tiles_text cells = codes "<path class='wood' d='" ++ flat_map tile_text cells ++ codes "'/>"

-- a pen's way of half a cell
abbrev pub way_text : Side → List ℕ
way_text side.Right = codes "h.5"
way_text side.Below = codes "v.5"
way_text side.Left = codes "h-.5"
way_text side.Above = codes "v-.5"

-- the half of a line from a cell to a side, unless the board ends there
abbrev pub half_text : List Cell → Cell → Side → List ℕ
half_text cells cell toward = if ends_at toward cells cell then [] else move_text cell ++ way_text toward

-- the line of a cell up and down, and that to the right and to the left
abbrev pub upright_text : List Cell → Cell → List ℕ
upright_text cells cell = half_text cells cell side.Below ++ half_text cells cell side.Above

abbrev pub level_text : List Cell → Cell → List ℕ
level_text cells cell = half_text cells cell side.Right ++ half_text cells cell side.Left

-- both, where the cell is on the board
abbrev pub cross_text : List Cell → Cell → List ℕ
cross_text cells cell = if is_on cell then upright_text cells cell ++ level_text cells cell else []

abbrev pub lines_text : List Cell → List ℕ
lines_text cells = codes "<path class='grid' d='" ++ flat_map (cross_text cells) cells ++ codes "'/>"

-- those of them that are edges of the board: beside the line the board ends
abbrev pub upright_edge : List Cell → Cell → List ℕ
upright_edge cells cell = if ends_at side.Left cells cell || ends_at side.Right cells cell then upright_text cells cell else []

abbrev pub level_edge : List Cell → Cell → List ℕ
level_edge cells cell = if ends_at side.Above cells cell || ends_at side.Below cells cell then level_text cells cell else []

abbrev pub edge_text : List Cell → Cell → List ℕ
edge_text cells cell = if is_on cell then upright_edge cells cell ++ level_edge cells cell else []

abbrev pub edges_text : List Cell → List ℕ
edges_text cells = codes "<path class='edge' d='" ++ flat_map (edge_text cells) cells ++ codes "'/>"

-- where the middle of a circle is
abbrev pub middle_text : Cell → List ℕ
middle_text cell = codes " cx='" ++ decimal cell.column ++ codes "' cy='" ++ decimal cell.row ++ codes "'"

-- a circle at a cell, after its beginning
abbrev pub circle_text : List ℕ → Cell → List ℕ
circle_text begun cell = begun ++ middle_text cell ++ codes "/>"

-- a cell's stone, which `X` says is black and `O` says is white
abbrev pub stone_text : Cell → List ℕ
stone_text cell =
    if cell.glyph == 88 then circle_text (codes "<circle class='black' r='.46'") cell
    else (if cell.glyph == 79 then circle_text (codes "<circle class='white' r='.46'") cell else [])

-- the next move, a stone with a 1 in the middle, and the end of the drawing
abbrev pub next_text : List ℕ
next_text = codes "<circle class='black' r='.46' cx='3' cy='3'/><path class='one' d='M2.86 2.9l.16-.13v.46'/></svg>"

-- the drawing of cells
abbrev pub picture_text : List Cell → List ℕ
picture_text cells = tiles_text cells ++ lines_text cells ++ edges_text cells ++ flat_map stone_text cells ++ next_text

-- the drawing of a word
unfoldable pub drawing_text : ℕ → List ℕ
drawing_text word = view_text (kind_of word) ++ title_text word ++ picture_text (cells_of word)
