-- Entries that come one after another.
use Rattle.std.specs.Prelude.{◌≡◌, ◌^◌, ◌<◌, List, [], ◌∷◌, All, Option, MatchOption}
use Rattle.shape_dict.specs.declared.entries.Entry.{Entry}
use Rattle.merge_core.specs.declared.entries.NextFault.{NextFault}
use Rattle.merge_core.specs.declared.entries.NextFault.TheVariants as fault

-- of these entries the first comes next, where there is one; what comes after it are the others
abbrev pub IsNext : (List Entry → Type 0) → List Entry → Option Entry → Type 0
IsNext After entries next =
    MatchOption next (entries ≡ []) (λ entry. (others : List Entry) × (entries ≡ entry ∷ others) × After others)

-- what is known before the next entry was told, from what is known after it: where none was told, that there was none
abbrev pub WasNext : (List Entry → Type 0) → (List Entry → Type 0) → Option Entry → Type 0
WasNext Before After next = MatchOption next (Before []) (λ entry. (others : List Entry) → After others → Before (entry ∷ others))

-- counts that are below 2 ^ 64
abbrev pub IsSmallUse : Entry → Type 0
IsSmallUse entry = (entry.there < 2 ^ 64) × (entry.played < 2 ^ 64)

-- some count of these entries is too large; of the others nothing is known
abbrev pub IsNextFault : List Entry → NextFault → Type 0
IsNextFault entries fault.Overflow = All IsSmallUse entries → ⊥
IsNextFault entries (fault.Read n) = Unit {0}
IsNextFault entries fault.Changed = Unit {0}
IsNextFault entries fault.Memory = Unit {0}
