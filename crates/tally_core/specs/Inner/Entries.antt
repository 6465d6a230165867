-- The patterns of entries.
use Rattle.std.specs.Prelude.{ℕ, List, map}
use Rattle.shape_dict.specs.declared.entries.Entry.{Entry}

abbrev pub shapes_of : List Entry → List ℕ
shapes_of entries = map (λ entry. entry.shape) entries
