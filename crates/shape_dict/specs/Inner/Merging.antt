-- Definitions that private contracts alone use, beside those of `Merging`.
use Rattle.std.specs.Prelude.{ℕ, suc, ◌≤◌, nat_lt, List, [], ◌∷◌, map, if◌then◌else◌}
use Rattle.shape_dict.specs.declared.entries.Entry.{Entry}
use Rattle.shape_dict.specs.Merging.{moved_entry, summed_entry}

-- an entry of the left put among those of the right; `rest` joins what follows it
abbrev pub placed : ℕ → Entry → (List Entry → List Entry) → List Entry → List Entry
placed games entry rest [] = entry ∷ rest []
placed games entry rest (other ∷ right) =
    if nat_lt entry.shape other.shape then entry ∷ rest (other ∷ right)
    else (if nat_lt other.shape entry.shape then moved_entry games other ∷ placed games entry rest right
    else summed_entry entry other ∷ rest right)

-- the join of two rising lists
abbrev pub merged : ℕ → List Entry → List Entry → List Entry
merged games [] right = map (moved_entry games) right
merged games (entry ∷ left) right = placed games entry (merged games left) right

-- the shapes rise, from a least one on
abbrev pub Climbs : ℕ → List Entry → Type 0
Climbs least [] = Unit {0}
Climbs least (entry ∷ entries) = (least ≤ entry.shape) × Climbs (suc entry.shape) entries
