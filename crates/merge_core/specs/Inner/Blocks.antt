-- Blocks of ranges that follow one another.
use Rattle.std.specs.Prelude.{ℕ, ◌+◌, ◌<◌, List, length, Option, Result, IfOk, slice_index_or}
use Rattle.merge_core.specs.declared.cuts.Plan.{Plan}
use Rattle.merge_core.specs.declared.entries.NextFault.{NextFault}
use Rattle.merge_core.specs.declared.measuring.Ranged.{Ranged}
use Rattle.merge_core.specs.Inner.Ranges.{IsRanged}

-- each that was counted is what is in the ranges from the cut at one block's beginning up to that at its end
abbrev pub AreBlocks : (ℕ → Option (List ℕ)) → Plan → (ℕ → ℕ) → List (Result Ranged NextFault) → Type 0
AreBlocks bytes plan end blocks =
    (i : ℕ) → (d : Result Ranged NextFault) → i < length blocks → IfOk (slice_index_or blocks i d) (IsRanged bytes plan (end i) (end (i + 1)))
