-- Counts, and the entries of a dictionary that have them.
use Rattle.std.specs.Prelude.{◌≡◌, ℕ, List, map, Option, Some, None}
use Rattle.shape_dict.specs.declared.entries.Entry.{Entry}
use Rattle.shape_dict.specs.Contents.{entry_of}
use Rattle.plain_core.specs.Inner.Count.{Count}
use Rattle.tally_core.specs.Inner.Times.{one_pattern}
use Rattle.plain_core.specs.Inner.Counter.{count_in, used}
use Rattle.range_core.specs.Rows.{taken_of}

-- an entry's pattern, and its count
abbrev pub pair_of : Entry → ℕ × Count
pair_of entry = (entry.shape, record { there = entry.there; played = entry.played; first = entry.first })

abbrev pub pairs_of : List Entry → List (ℕ × Count)
pairs_of entries = map pair_of entries

-- the count of a pattern that rows have, if they have one
abbrev pub counts_of : List Entry → ℕ → Option Count
counts_of rows shape = count_in (pairs_of (taken_of rows)) shape

-- what each pattern's count is once that of an entry was there and was played as often again as the entry says, in its game
abbrev pub counted_with : Entry → (ℕ → Option Count) → ℕ → Option Count
counted_with entry before =
    used entry.first (one_pattern entry.shape entry.there) (one_pattern entry.shape entry.played) before

abbrev pub entry_of_pair : ℕ × Count → Entry
entry_of_pair pair = record { shape = pair.0; there = pair.1.there; played = pair.1.played; first = pair.1.first }

-- the entry of a pattern with this count
unfoldable pub entered : ℕ → Option Count → Option Entry
entered shape None = None
entered shape (Some count) = Some (entry_of_pair (shape, count))

-- the entries are those of these counts, pattern by pattern
abbrev pub AreEntered : (ℕ → Option Count) → List Entry → Type 0
AreEntered counts entries = (shape : ℕ) → entry_of shape entries ≡ entered shape (counts shape)
