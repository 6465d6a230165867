use Rattle.std.proofs.Common.{◌≡◌, Some, ap, subst, ◌∙◌}
use Rattle.gather_core.specs.WordShares.{unnumbered}
use Rattle.table_shares.proofs.Common.{Entry, IsUnlike, with_row}
use Rattle.table_shares.proofs.Totalled.{total_first, total_with, large_with}
use Rattle.table_shares.proofs.totals.add.Goals as goal

pub returns-in_default-clause-ok : goal.returns-in_default-clause-ok
returns-in_default-clause-ok c rows more number apart is h =
    rw c.entry.ensures.value (total_first rows more number c.args.row apart is (rw c.in_default.is at h))

pub returns-in-Some-with-clause-ok : goal.returns-in-Some-with-clause-ok
returns-in-Some-with-clause-ok c rows more number apart is h =
    let total = c.in-Some.total in
    let both = c.in-Some-with.ensures.some in
    let row = ap (λ (e : Entry). with_row (Some total) (unnumbered e)) c.entry-2.ensures.value in
    let like : total.shape ≡ c.args.row.shape = both.1 ∙ ap (λ (e : Entry). e.shape) c.entry-2.ensures.value in
    rw (both.0 ∙ row) (total_with rows more number c.args.row apart is total like (rw c.in-Some.is at h))

pub returns-in-None-clause-fault : goal.returns-in-None-clause-fault
returns-in-None-clause-fault c rows more number apart is h =
    large_with rows more number c.args.row apart is c.in-Some.total
    (subst (λ (e : Entry). IsUnlike c.in-Some.total (unnumbered e)) c.entry-2.ensures.value c.in-None.ensures.none) (rw c.in-Some.is at h)
