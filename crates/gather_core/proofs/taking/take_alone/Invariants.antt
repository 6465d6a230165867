use Rattle.std.proofs.Common.{◌≡◌, List, [], ◌∷◌, ◌++◌, vec_len}
use Rattle.gather_core.proofs.Common.{Entry}
use Rattle.gather_core.specs.Inner.Taking.{AreTaken}
use Rattle.gather_core.proofs.taking.take_alone.Given as goal

-- the ranges that are left, and those that were taken, are all that there were
abbrev pub invariant-loop-range : goal.invariant-loop-range
invariant-loop-range g l =
    (taken : List (List Entry)) × (l.ranges.items ++ taken ≡ l.fn.ranges.items)
    × AreTaken l.numbering taken l.pass l.work.numbered (l.work.words ∷ [])

abbrev pub decreases-loop-range : goal.decreases-loop-range
decreases-loop-range g l = vec_len l.ranges
