-- Entries in several lists.
use Rattle.std.specs.Prelude.{List, Vec}
use Rattle.std.specs.List.{flat_map}
use Rattle.std.specs.Global.{Global}
use Rattle.shape_dict.specs.declared.entries.Entry.{Entry}

-- the entries of the lists, one list after another
abbrev pub entries_in : List (Vec Entry Global) → List Entry
entries_in lists = flat_map (λ list. list.items) lists
