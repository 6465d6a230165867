use Rattle.std.proofs.Common.{ℕ, List, Option}
use Rattle.merge_core.specs.declared.cuts.Plan.{Plan}
use Rattle.merge_core.specs.Inner.Blocks.{AreBlocks}
use Rattle.merge_core.specs.Inner.Ranges.{IsRanged}
use Rattle.merge_core.proofs.measuring.sum_up.Given as goal

abbrev pub invariant-loop-place : goal.invariant-loop-place
invariant-loop-place l = (bytes : ℕ → Option (List ℕ)) → (plan : Plan) → (end : ℕ → ℕ) → AreBlocks bytes plan end l.blocks → IsRanged bytes plan (end 0) (end l.place) l.total
