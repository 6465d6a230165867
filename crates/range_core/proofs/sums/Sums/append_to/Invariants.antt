use Rattle.std.proofs.Common.{◌≡◌, ◌++◌, take}
use Rattle.range_core.specs.Rows.{taken_of}
use Rattle.range_core.proofs.sums.Sums.append_to.Given as goal

-- the rows so far were appended, but for those that count nothing
abbrev pub invariant-loop-row : goal.invariant-loop-row
invariant-loop-row l = l.list.items ≡ l.fn.list.items ++ taken_of (take l.row-index l.row-items)
