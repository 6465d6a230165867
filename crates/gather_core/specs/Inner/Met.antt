-- What a game has met, as entries.
use Rattle.std.specs.Prelude.{ℕ, ◌+◌, nat_lt, if◌then◌else◌, List, [], ◌∷◌, ◌++◌, Some}
use Rattle.shape_dict.specs.declared.entries.Entry.{Entry}
use Rattle.tally_core.specs.declared.meetings.Meeting.{Meeting}

-- a meeting of a game as an entry; none where it counts nothing
abbrev pub met_entry : ℕ → Meeting → List Entry
met_entry game m =
    if nat_lt 0 (m.there + m.played) then record { shape = m.shape; there = m.there; played = m.played; first = Some game } ∷ [] else []

-- the meetings of a game as entries
abbrev pub met_entries : ℕ → List Meeting → List Entry
met_entries game [] = []
met_entries game (m ∷ meetings) = met_entry game m ++ met_entries game meetings
