-- The join of two lists of entries, entry by entry.
use Rattle.std.specs.Prelude.{ℕ, ◌+◌}
use Rattle.std.specs.Option.{option_map}
use Rattle.shape_dict.specs.declared.entries.Entry.{Entry}

-- an entry of the right alone, after the left's games
abbrev pub moved_entry : ℕ → Entry → Entry
moved_entry games right = record right { first = option_map (λ game. game + games) right.first }

-- an entry of both
abbrev pub summed_entry : Entry → Entry → Entry
summed_entry left right = record left { there = left.there + right.there; played = left.played + right.played }
