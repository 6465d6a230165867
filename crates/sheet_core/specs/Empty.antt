-- Why no pattern of a dictionary is chosen.
use Rattle.std.specs.Prelude.{ℕ, max, List, [], ◌∷◌, ◌++◌, Option, Some, None, unwrap_or, codes}
use Rattle.std.specs.Fmt.{decimal}
use Rattle.shape_core.specs.declared.words.Kind.{Kind}
use Rattle.shape_core.specs.declared.words.Kind.TheVariants as kind
use Rattle.shape_dict.specs.Contents.{of_kind}
use Rattle.shape_dict.specs.declared.entries.Entry.{Entry}
use Rattle.sheet_core.specs.declared.asked.Asked.{Asked}

-- how often that pattern was there which was there most often: none where there is no pattern; `most` is that of those before
abbrev pub most_after : Option ℕ → List Entry → Option ℕ
most_after most [] = most
most_after most (entry ∷ entries) = most_after (Some (max (unwrap_or most 0) entry.there)) entries

abbrev pub plural_name : Kind → List ℕ
plural_name kind.Square = codes "squares"
plural_name kind.Diamond = codes "diamonds"

-- there is no pattern of the kind
unfoldable pub absent_text : Kind → List ℕ
absent_text kind = codes "The dictionary has no " ++ plural_name kind ++ codes "."

-- none of its patterns was there so often
unfoldable pub rare_text : Kind → ℕ → List ℕ
rare_text kind least =
    codes "None of the " ++ plural_name kind ++ codes " was there as often as " ++ decimal least ++ codes " times: "

-- how often one was there at most
unfoldable pub most_text : ℕ → List ℕ
most_text most = codes "at most " ++ decimal most ++ codes " times."

abbrev pub none_text : Kind → ℕ → Option ℕ → List ℕ
none_text kind least None = absent_text kind
none_text kind least (Some most) = rare_text kind least ++ most_text most

-- the sentence that stands in place of patterns, where none is chosen of these
unfoldable pub empty_text : Asked → List Entry → List ℕ
empty_text asked entries = none_text asked.kind asked.least (most_after None (of_kind asked.kind entries))
