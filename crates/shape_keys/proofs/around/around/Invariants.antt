use Rattle.std.proofs.Common.{◌≡◌, ◌+◌, ◌/◌, ◌%◌, ◌<◌, ℕ, length, get_or}
use Rattle.shape_keys.specs.Around.{IsCodeAt}
use Rattle.shape_keys.proofs.around.around.Given as goal

abbrev pub invariant-loop-cell : goal.invariant-loop-cell
invariant-loop-cell l =
    (length l.codes ≡ 25)
    × ((k : ℕ) → k < l.cell → IsCodeAt l.board l.columns (l.column + k % 5) (l.row + k / 5) (get_or l.codes k 0))
