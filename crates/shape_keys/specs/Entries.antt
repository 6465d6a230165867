-- The entries and the header of a dictionary as they cross to other languages.
use Rattle.std.specs.Prelude.{ℕ, ◌-◌, ◌^◌, ◌==◌, List, map, Option, unwrap_or, min}
use Rattle.std.specs.List.{find}
use Rattle.shape_dict.specs.declared.entries.Entry.{Entry}
use Rattle.shape_dict.specs.declared.headers.Header.{Header}
use Rattle.shape_dict.specs.Reading.{lines_after}
use Rattle.shape_keys.specs.declared.entries.ShapesEntry.{ShapesEntry}
use Rattle.shape_keys.specs.declared.entries.ShapesHeader.{ShapesHeader}

-- a number, or 2 ^ 64 - 1 where it is not known: no game has that number, since there are fewer than 2 ^ 64 of them
-- and the first is 0, and no text has that number of lines
abbrev pub or_unknown : Option ℕ → ℕ
or_unknown number = unwrap_or number (2 ^ 64 - 1)

-- what is said of an entry
abbrev pub said : Entry → ShapesEntry
said entry = record {
  shape = entry.shape;
  there = entry.there;
  played = entry.played;
  first = or_unknown entry.first;
}

-- what is said of a header
abbrev pub said_header : Header → ShapesHeader
said_header header = record {
  games = header.games;
  moves = header.moves;
  squares = header.squares;
  diamonds = or_unknown header.diamonds;
  patterns = min (lines_after header) (2 ^ 64 - 1);
}

-- the shapes of entries, in their order
abbrev pub shapes_in : List ShapesEntry → List ℕ
shapes_in entries = map (λ (entry : ShapesEntry). entry.shape) entries

-- the first entry of a shape
abbrev pub entry_in : ℕ → List ShapesEntry → Option ShapesEntry
entry_in shape entries = find (λ (entry : ShapesEntry). entry.shape == shape) entries
