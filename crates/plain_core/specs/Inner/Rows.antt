-- What is put at a place of rows that are counted in the order of their games.
use Rattle.std.specs.Prelude.{◌+◌, if◌then◌else◌}
use Rattle.shape_dict.specs.declared.entries.Entry.{Entry}
use Rattle.range_core.specs.Rows.{is_taken}

-- the row of an entry's pattern, or a free one, once it has the entry's counts besides; a free one gets the entry's first game
abbrev pub counted_row : Entry → Entry → Entry
counted_row row entry = record {
  shape = entry.shape;
  there = row.there + entry.there;
  played = row.played + entry.played;
  first = if is_taken row then row.first else entry.first;
}
