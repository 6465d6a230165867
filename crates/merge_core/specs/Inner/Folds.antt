-- Dictionaries that are joined in turn, whether sums are too large or not.
use Rattle.std.specs.Prelude.{◌≡◌, ℕ, ◌+◌, List, [], ◌∷◌}
use Rattle.shape_dict.specs.declared.entries.Entry.{Entry}
use Rattle.shape_dict.specs.Contents.{Contents}
use Rattle.shape_dict.specs.Join.{IsJoin}
use Rattle.shape_dict.specs.Inner.Merging.{merged}

-- the join of two, entry by entry
abbrev pub both_of : Contents → Contents → Contents
both_of a b = record { games = a.games + b.games; moves = a.moves + b.moves; entries = merged a.games a.entries b.entries; counts_diamonds = a.counts_diamonds }

abbrev pub Folds : Contents → List Contents → Contents → Type 0
Folds first [] sum = sum ≡ first
Folds first (next ∷ others) sum = (both : Contents) × IsJoin first next both × Folds both others sum

-- the same of at least one dictionary
abbrev pub FoldsAll : List Contents → Contents → Type 0
FoldsAll [] sum = ⊥
FoldsAll (first ∷ others) sum = Folds first others sum

-- how often all patterns were there
abbrev pub there_in : List Entry → ℕ
there_in [] = 0
there_in (entry ∷ entries) = entry.there + there_in entries
