use Rattle.std.proofs.Common.{arith, ◌∙◌, ◌++◌, ◌∷◌, []}
use Rattle.merge_core.proofs.Left.{ended, failed}
use Rattle.merge_core.proofs.Totals.{there_more}
use Rattle.merge_core.proofs.judging.total_of.Goals as goal

pub returns-in-Ok-None : goal.returns-in-Ok-None
returns-in-Ok-None g c = λ whole y.
    let h = c.loop-place.invariant.sum whole y in
    let e = rw c.in-Ok-None.field-0-is at c.in-Ok-None.ensures in
    (h.0, ended c.next_entry.new.self whole h.0 c.args.lines.now.header (e.given whole h.0 h.1) e.stands (e.header ∙ c.loop-place.invariant.header), h.2)

pub returns-in-Err : goal.returns-in-Err
returns-in-Err g c = λ whole y.
    let h = c.loop-place.invariant.sum whole y in
    failed c.next_entry.new.self whole h.0 c.in-Err.fault (c.in-Err.ensures.given whole h.0 h.1) c.in-Err.ensures.stands

pub loop-place-preserved : goal.loop-place-preserved
loop-place-preserved g c =
    let e = rw c.in-Ok-Some.field-0-is at c.in-Ok-Some.ensures in
    record {
      header = c.next_entry.ensures.header ∙ c.loop-place.invariant.header;
      sum = λ whole y.
          let h = c.loop-place.invariant.sum whole y in
          (h.0 ++ c.in-Ok-Some.entry ∷ [], e.given whole h.0 h.1, omega (arith, c.saturating_add-there.ensures, h.2, there_more h.0 c.in-Ok-Some.entry));
    }
