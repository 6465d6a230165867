-- The lines of ranges.
use Rattle.std.specs.Prelude.{◌≡◌, ℕ, ◌+◌, ◌<◌, List, length, Vec, Option, Result, IfOk, slice_index_or}
use Rattle.std.specs.Global.{Global}
use Rattle.shape_dict.specs.declared.entries.Entry.{Entry}
use Rattle.merge_core.specs.declared.cuts.Plan.{Plan}
use Rattle.merge_core.specs.declared.entries.NextFault.{NextFault}
use Rattle.merge_core.specs.declared.forms.Form.{Form}
use Rattle.merge_core.specs.declared.printing.Round.{Round}
use Rattle.merge_core.specs.Inner.Ranges.{HasRangeAt}
use Rattle.merge_core.specs.Inner.Writing.{lines_of}

-- these are the lines that a text has of what stays of the join in the range of this number
abbrev pub IsPrinted : (ℕ → Option (List ℕ)) → Plan → Form → ℕ → List ℕ → Type 0
IsPrinted bytes plan form n lines = (joined : List Entry) × HasRangeAt bytes plan n joined × (lines ≡ lines_of form joined)

-- the same of each range of a round, where its lines were made
abbrev pub ArePrinted : (ℕ → Option (List ℕ)) → Plan → Form → Round → Type 0
ArePrinted bytes plan form round =
    (i : ℕ) → (d : Result (Vec ℕ Global) NextFault) → i < length round.made.items
    → IfOk (slice_index_or round.made.items i d) (λ lines. IsPrinted bytes plan form (round.from + i) lines.items)
