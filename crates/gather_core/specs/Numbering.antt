-- Patterns that have numbers in a table, at which their least games are marked.
use Rattle.std.specs.Prelude.{ℕ, List, Option, Some, None, IfSome}
use Rattle.probe_core.specs.Sequential.{IsNumber}
use Rattle.shape_dict.specs.declared.entries.Entry.{Entry}
use Rattle.range_core.specs.Totals.{Total, total_of}
use Rattle.slot_table.specs.declared.entries.Happened.{Happened}
use Rattle.slot_table.specs.History.{content_of, least_at, IsAtMost}

-- a pattern that has a total has a number after a history of a table of n numbers, at which a game is marked that is no later than
-- the total's least one
abbrev pub IsNumbered : ℕ → List Happened → ℕ → Option Total → Type 0
IsNumbered n seen shape None = Unit {0}
IsNumbered n seen shape (Some total) = (number : ℕ) × IsNumber (content_of n seen) shape number × IfSome total.first (IsAtMost (least_at number seen))

-- each pattern of these entries does
abbrev pub AreNumbered : ℕ → List Happened → List Entry → Type 0
AreNumbered n seen entries = (shape : ℕ) → IsNumbered n seen shape (total_of shape entries)
