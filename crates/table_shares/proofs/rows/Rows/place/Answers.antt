use Rattle.std.proofs.Common.{◌∙◌}
use Rattle.table_shares.proofs.Found.{no_row}
use Rattle.table_shares.proofs.rows.Rows.place.Goals as goal

pub returns-clause-none : goal.returns-clause-none
returns-clause-none c = rw (c.copied.ensures ∙ c.get.ensures.value, ← c.self.view_is) (no_row c.self.invariant.0 c.args.number)
