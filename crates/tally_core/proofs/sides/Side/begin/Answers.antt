use Rattle.std.proofs.Common.{◌≡◌, ◌*◌, ◌-◌, ◌^◌, ◌%◌, replicate, refl, ap, ap₂, sym, ◌∙◌}
use Rattle.tally_core.specs.Inner.Packing.{stays_of}
use Rattle.tally_core.specs.Inner.Standing.{no_stays}
use Rattle.tally_core.proofs.Beginning.{row-full, new-side}
use Rattle.tally_core.proofs.sides.Side.begin.Goals as goal

pub returns-clause-side : goal.returns-clause-side
returns-clause-side c =
    let size = c.args.size in
    let columns : c.from-columns.result ≡ size.columns = c.from-columns.ensures ∙ c.columns.ensures.value in
    let rows : c.from-rows.result ≡ size.rows = c.from-rows.ensures ∙ c.rows.ensures.value in
    new-side size (record { occasions = 0; changed = c.in_ok-changed.changed; standing = c.in_ok-standing.standing; points = c.in_ok-points.points }) refl
    (c.in_ok-changed.ensures.items_if_clones_equal (λ y e. e) ∙ ap₂ (λ n m. replicate n (1 * 2 ^ m % 2 ^ 64 - 1)) rows columns ∙ ap (replicate size.rows) (row-full size.columns c.columns.ensures.size.few_columns))
    (c.in_ok-standing.ensures.items_if_clones_equal (λ y e. e) ∙ ap (λ n. replicate n 0) rows)
    (c.in_ok-points.ensures.items_if_clones_equal
    (λ y e. sym e.3
    ∙ ap (λ s. stays_of s e.1.diamond e.1.since) e.4.0
    ∙ ap (λ d. stays_of e.0.square d e.1.since) e.4.1.0
    ∙ ap (λ n. stays_of e.0.square e.0.diamond n) e.4.1.1
    ∙ e.2)
    ∙ ap (replicate c.area.result) c.none.ensures ∙ ap (λ n. replicate n no_stays) c.area.ensures.value)
