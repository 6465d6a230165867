use Rattle.range_core.specs.Inner.Sums.{sums_factor}
use Rattle.range_core.proofs.sums.Sums.clear.Goals as goal

pub invariant_of-self : goal.invariant_of-self
invariant_of-self c = c.free_rows.ensures.rows sums_factor
