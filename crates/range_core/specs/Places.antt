-- Ranges by the places of a table: patterns whose first places are near one another have one range.
use Rattle.std.specs.Prelude.{ℕ, ◌*◌, ◌/◌, ◌%◌, ◌^◌}

-- what the places of a pattern are taken from
abbrev pub mixed_of : ℕ → ℕ → ℕ
mixed_of factor shape = (shape * factor) % 2 ^ 64

-- its first place among this number of places
abbrev pub home_of : ℕ → ℕ → ℕ → ℕ
home_of factor places shape = (mixed_of factor shape * places) / 2 ^ 64

-- what words are multiplied by, for the places of the shared table and for those of rows
abbrev pub place_factor : ℕ
place_factor = 0x9E37_79B9_7F4A_7C15

-- how many ranges there are, and the range of a pattern
abbrev pub place_ranges : ℕ
place_ranges = 512

abbrev pub range_of_place : ℕ → ℕ
range_of_place shape = home_of place_factor place_ranges shape
