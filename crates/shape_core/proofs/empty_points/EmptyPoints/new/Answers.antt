use Rattle.std.proofs.Common.{◌*◌, ◌-◌, ◌%◌, ◌^◌, replicate, ap, ap₂, ◌∙◌}
use Rattle.shape_core.proofs.EmptyPoints.{all-empty, row-full}
use Rattle.shape_core.proofs.empty_points.EmptyPoints.new.Goals as goal

pub returns : goal.returns
returns c = λ position none.
    let size = c.args.size in
    let items = c.in_ok-rows.ensures.items_if_clones_equal (λ y e. e) in
    let columns = c.from-columns.ensures ∙ c.columns.ensures.value in
    let rows = c.from.ensures ∙ c.rows.ensures.value in
    all-empty size position c.in_ok-rows.rows.items
    (items ∙ ap₂ (λ n full. replicate n full) rows (ap (λ k. 1 * 2 ^ k % 2 ^ 64 - 1) columns ∙ row-full size.columns c.columns.ensures.size.few_columns)) none
