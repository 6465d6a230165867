-- How often a pattern was there.
use Rattle.std.specs.Prelude.{ℕ, max}
use Rattle.shape_dict.specs.declared.entries.Entry.{Entry}

-- how often a pattern was there, in a denominator: each pattern of a dictionary was there once or more
abbrev pub occasions_of : Entry → ℕ
occasions_of entry = max entry.there 1
