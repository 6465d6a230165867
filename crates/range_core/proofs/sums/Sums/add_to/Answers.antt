use Rattle.std.proofs.Common.{◌≡◌, ℕ, Bool, true, false, not, None, take, ap, sym, ◌∙◌, arith}
use Rattle.std.proofs.lemmas.Bool.Decides.{nat_tests}
use Rattle.shape_dict.specs.declared.entries.Entry.{Entry}
use Rattle.range_core.specs.Totals.{together, total_of, count_at}
use Rattle.range_core.specs.Rows.{is_taken, taken_of}
use Rattle.range_core.proofs.Adding.{together_assoc, together_none}
use Rattle.range_core.proofs.RowTotals.{count_of, total_next_taken}
use Rattle.range_core.proofs.sums.Sums.add_to.Goals.{then-not-is_free+in_ok-push, else-not-is_free}
use Rattle.range_core.proofs.sums.Sums.add_to.Goals as goal

-- a row that is free counts nothing, and another one what its entry does
free_counts : (shape : ℕ) (row : Entry) (free : Bool) → free ≡ not (is_taken row) → free ≡ true → count_of shape row ≡ None
free_counts shape row free is told = Prim.grind (arith, nat_tests)

taken_counts : (shape : ℕ) (row : Entry) (free : Bool) → free ≡ not (is_taken row) → free ≡ false → count_of shape row ≡ count_at shape row
taken_counts shape row free is told = Prim.grind (arith, nat_tests)

pub loop-row-preserved : goal.loop-row-preserved
loop-row-preserved c shape =
    let rows = c.as_slice-row-items.result.now in
    let i = c.loop-row.row-index in
    let row = c.row-item.result in
    let before = total_of shape c.args.list.now in
    let had = total_of shape (taken_of (take i rows)) in
    let next = total_next_taken shape rows i row c.loop-row-test.true c.row-item.is in
    elim c.if-not-is_free.branch [
      | then-not-is_free+in_ok-push w ↦
          ap (total_of shape) w.list-is
          ∙ w.in_ok-push.ensures.added shape
          ∙ ap (λ t. together t (count_at shape row)) (c.loop-row.invariant shape)
          ∙ together_assoc before had (count_at shape row)
          ∙ ap (together before) (ap (together had) (sym (taken_counts shape row c.is_free.result c.is_free.ensures w.if-not-is_free.true)) ∙ sym next)
      | else-not-is_free w ↦
          ap (total_of shape) w.list-is
          ∙ c.loop-row.invariant shape
          ∙ ap (together before) (sym (together_none had) ∙ ap (together had) (sym (free_counts shape row c.is_free.result c.is_free.ensures w.if-not-is_free.false)) ∙ sym next)
    ]
