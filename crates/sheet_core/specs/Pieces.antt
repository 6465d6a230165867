-- What plain text and page have in common.
use Rattle.std.specs.Prelude.{ℕ, ◌+◌, ◌*◌, ◌/◌, ◌%◌, List, [], ◌∷◌, ◌++◌, Option, Some, None, codes}
use Rattle.std.specs.Fmt.{decimal}
use Rattle.shape_dict.specs.declared.entries.Entry.{Entry}
use Rattle.sheet_core.specs.Occasions.{occasions_of}

-- the plays for ten thousand times that the pattern was there, rounded down
abbrev pub hundredths_of : Entry → ℕ
hundredths_of entry = entry.played * 10000 / occasions_of entry

-- hundredths of a percent, as whole percent, rounded down
unfoldable pub whole_percent_text : ℕ → List ℕ
whole_percent_text hundredths = decimal (hundredths / 100) ++ codes " %"

-- the same with two decimals
abbrev pub percent_text : ℕ → List ℕ
percent_text hundredths =
    decimal (hundredths / 100) ++ codes "." ++ (48 + hundredths / 10 % 10) ∷ (48 + hundredths % 10) ∷ codes "%"

-- the first game that had the pattern, where it is known
abbrev pub first_text : Option ℕ → List ℕ
first_text None = []
first_text (Some game) = codes " first " ++ decimal game

-- the texts of entries one after another, each with its rank, from a first rank on
abbrev pub ranked : (ℕ → Entry → List ℕ) → ℕ → List Entry → List ℕ
ranked text rank [] = []
ranked text rank (entry ∷ entries) = text rank entry ++ ranked text (rank + 1) entries
