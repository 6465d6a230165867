use Rattle.std.proofs.Common.{◌≡◌, ℕ, take}
use Rattle.range_core.specs.Totals.{together, total_of}
use Rattle.range_core.proofs.sums.Sums.add_all.Given as goal

-- the entries so far were counted
abbrev pub invariant-loop-entry : goal.invariant-loop-entry
invariant-loop-entry l = (shape : ℕ) → total_of shape l.self ≡ together (total_of shape l.fn.self) (total_of shape (take l.entry-index l.entries))
