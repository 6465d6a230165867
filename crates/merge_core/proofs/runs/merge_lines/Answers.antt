use Rattle.std.proofs.Common.{◌++◌, ◌≡◌, ◌∙◌, sym}
use Rattle.shape_dict.specs.Contents.{Contents}
use Rattle.merge_core.specs.Inner.Leaves.{HasLeft}
use Rattle.merge_core.specs.Inner.Trees.{Yields}
use Rattle.merge_core.specs.Inner.Writing.{lines_of}
use Rattle.merge_core.proofs.Finished.{took_none, sum_given, is_text, done_of, fault_of}
use Rattle.merge_core.proofs.runs.merge_lines.Goals as goal

pub returns-in-Err-clause-took : goal.returns-in-Err-clause-took
returns-in-Err-clause-took g c = took_none (g.W.Write.contents c.args.writer.now) _ c.in-Err.ensures.quiet

pub returns-clause-done : goal.returns-clause-done
returns-clause-done g c = λ inputs are number.
    let bytes = g.S.Sources.bytes c.args.sources.now in
    let h = c.in-Ok.ensures.first inputs are number in
    let given = sum_given bytes c.count.result c.args.form.least c.in-Ok.joined.0 c.in-Ok.joined.1 inputs (λ (sum : Contents). (c.in-Ok-grow.grown.totals.games ≡ sum.games) × Yields (λ leaf. HasLeft leaf.lines) c.in-Ok-grow.grown.tree sum.entries) h (number ∙ sym c.count.ensures) c.in-Ok-grow.ensures.left in
    let text = is_text bytes c.in-Ok.joined.0 c.in-Ok.joined.1 inputs c.args.form c.in-Ok-header_of.header.items h c.in-Ok-header_of.ensures in
    done_of c.write_lines.result c.args.form inputs (g.W.Write.contents c.args.writer.now) (g.W.Write.contents c.write_lines.new.writer) (c.in-Ok-header_of.header.items ++ lines_of c.args.form h.summed.sum.entries) text
    (c.write_lines.ensures.known h.summed.sum.entries given.1)

pub returns-clause-fault : goal.returns-clause-fault
returns-clause-fault g c = λ inputs are number.
    let bytes = g.S.Sources.bytes c.args.sources.now in
    let h = c.in-Ok.ensures.first inputs are number in
    let given = sum_given bytes c.count.result c.args.form.least c.in-Ok.joined.0 c.in-Ok.joined.1 inputs (λ (sum : Contents). (c.in-Ok-grow.grown.totals.games ≡ sum.games) × Yields (λ leaf. HasLeft leaf.lines) c.in-Ok-grow.grown.tree sum.entries) h (number ∙ sym c.count.ensures) c.in-Ok-grow.ensures.left in
    let text = is_text bytes c.in-Ok.joined.0 c.in-Ok.joined.1 inputs c.args.form c.in-Ok-header_of.header.items h c.in-Ok-header_of.ensures in
    fault_of c.write_lines.result c.args.form inputs (g.W.Write.contents c.args.writer.now) (g.W.Write.contents c.write_lines.new.writer) (c.in-Ok-header_of.header.items ++ lines_of c.args.form h.summed.sum.entries) text
    (c.write_lines.ensures.known h.summed.sum.entries given.1)
