use Rattle.std.proofs.Common.{length, ap, sym}
use Rattle.range_core.specs.Places.{place_factor}
use Rattle.plain_core.proofs.counts.Counts.with_places.Goals as goal

pub invariant_of-result : goal.invariant_of-result
invariant_of-result c = (c.in_ok-free_rows.ensures.rows place_factor, ap length (sym c.in_ok-free_rows.ensures.free))
