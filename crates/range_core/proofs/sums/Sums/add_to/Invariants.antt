use Rattle.std.proofs.Common.{◌≡◌, ℕ, take}
use Rattle.range_core.specs.Totals.{together, total_of}
use Rattle.range_core.specs.Rows.{taken_of}
use Rattle.range_core.proofs.sums.Sums.add_to.Given as goal

-- the rows so far were added, but for those that count nothing
abbrev pub invariant-loop-row : goal.invariant-loop-row
invariant-loop-row l = (shape : ℕ) → total_of shape l.list ≡ together (total_of shape l.fn.list) (total_of shape (taken_of (take l.row-index l.row-items)))
