-- What is put at a place of rows that are added up.
use Rattle.std.specs.Prelude.{ℕ, ◌+◌, ◌*◌, ◌%◌, ◌^◌, if◌then◌else◌}
use Rattle.shape_dict.specs.declared.entries.Entry.{Entry}
use Rattle.range_core.specs.Places.{place_factor, place_ranges}
use Rattle.range_core.specs.Rows.{is_taken}
use Rattle.range_core.specs.Totals.{earlier}

-- the row of an entry's pattern, or a free one, once it counts the entry besides
abbrev pub summed_row : Entry → Entry → Entry
summed_row row entry = if is_taken row then record entry {
  there = row.there + entry.there;
  played = row.played + entry.played;
  first = earlier row.first entry.first;
} else entry

-- what the words of one range by places are multiplied by
abbrev pub sums_factor : ℕ
sums_factor = (place_factor * place_ranges) % 2 ^ 64
