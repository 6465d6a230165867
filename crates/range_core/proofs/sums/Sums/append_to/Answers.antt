use Rattle.std.proofs.Common.{subst, All}
use Rattle.range_core.specs.Entries.{IsCountedEntry}
use Rattle.range_core.proofs.RowTotals.{taken_counted}
use Rattle.range_core.proofs.sums.Sums.append_to.Goals as goal

pub returns-clause-counted : goal.returns-clause-counted
returns-clause-counted c = subst (All IsCountedEntry) c.self.view_is (taken_counted c.self.inside.rows.items c.self.invariant.shapes)
