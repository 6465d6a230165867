use Rattle.std.proofs.Common.{ℕ, ◌+◌, ◌<◌, sym, arith}
use Rattle.std.proofs.lemmas.List.{length-map}
use Rattle.std.proofs.lemmas.List.Elements.{All-map}
use Rattle.plain_core.specs.Inner.Count.{Count}
use Rattle.plain_core.specs.Inner.Entries.{pair_of}
use Rattle.range_core.specs.Rows.{taken_of}
use Rattle.plain_core.proofs.RowLookups.{once_among, taken_few, all_count}
use Rattle.plain_core.proofs.counts.Counts.len.Goals as goal

pub returns-clause-once : goal.returns-clause-once
returns-clause-once c = rw (sym c.self.view_is) (once_among c.self.inside.rows.items c.self.invariant.0)

pub returns-clause-counted : goal.returns-clause-counted
returns-clause-counted c =
    let rows = c.self.inside.rows.items in
    let counts : ℕ × Count → Type 0 = λ (pair : ℕ × Count). 0 < pair.1.there + pair.1.played in
    rw (sym c.self.view_is) (All-map counts pair_of (taken_of rows) (all_count rows))

pub returns-clause-small : goal.returns-clause-small
returns-clause-small c =
    let rows = c.self.inside.rows.items in
    rw (sym c.self.view_is) (omega (arith, taken_few rows, length-map (taken_of rows) pair_of, c.self.inside.rows.small))
