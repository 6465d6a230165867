use Rattle.table_shares.proofs.Common.{nat_tests}
use Rattle.std.proofs.Common.{◌+◌, sym, ◌∙◌, ◌≡◌, arith}
use Rattle.table_shares.proofs.Visits.{agree_more, differs_here}
use Rattle.table_shares.proofs.agreeing.compare.Goals as goal

pub returns-then-eq-clause-agree : goal.returns-then-eq-clause-agree
returns-then-eq-clause-agree g c rows first shares h =
    let of_table = c.first-of_table.result in
    let same : of_table ≡ c.args.of_shares = Prim.grind (arith, nat_tests, c.if-eq.ensures) in
    agree_more c.args.table.now.slots rows c.args.number first c.args.pass.now c.first-of_table.new.pass c.args.differs.now of_table (sym c.is_some.ensures ∙ c.if-is_some.false) c.first-of_table.ensures.later
    (same ∙ shares) h

pub returns-clause-agree : goal.returns-clause-agree
returns-clause-agree g c rows first shares h =
    let of_table = c.first-of_table.result in
    differs_here c.args.table.now.slots rows c.args.number (c.args.number + 1) first c.args.pass.now c.first-of_table.new.pass c.args.differs.now c.args.of_shares of_table (sym c.is_some.ensures ∙ c.if-is_some.false) c.first-of_table.ensures.later
    c.first-of_table.ensures.least c.requires.number shares (λ same. Prim.grind (arith, nat_tests, c.if-eq.ensures)) h
