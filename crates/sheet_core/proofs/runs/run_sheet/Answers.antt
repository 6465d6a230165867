use Rattle.std.proofs.Common.{subst}
use Rattle.std.proofs.lemmas.Result.{err_from_is_err_and}
use Rattle.std.specs.Io.KnownBytes.{Appends}
use Rattle.engine_core.specs.Output.{WroteFront}
use Rattle.engine_core.specs.Finds.{IsFindFault}
use Rattle.engine_core.proofs.Causes.{run_cause}
use Rattle.engine_core.proofs.Runs.{run_done, run_stopped}
use Rattle.sheet_core.specs.Runs.{IsSheetText}
use Rattle.sheet_core.proofs.runs.run_sheet.Goals as goal

pub returns-in_err-sheet-clause-fault : goal.returns-in_err-sheet-clause-fault
returns-in_err-sheet-clause-fault g c =
    let p = err_from_is_err_and c.from_residual-in_err-sheet.result c.from_residual-in_err-sheet.ensures.1 in
    rw (p.1, p.2) (run_cause (IsSheetText c.args.asked c.args.hits.now) IsFindFault (g.R.Read.remaining c.args.reader.now) (g.W.Write.contents c.args.writer.now)
    c.in_ok-input.input.items c.in_err-sheet.field-0.0 c.in_ok-input.ensures.input (λ written h. h)
    (subst (λ bytes. IsFindFault bytes c.in_err-sheet.field-0.0) c.deref.ensures.value c.in_err-sheet.ensures.fault))

pub returns-in_err-write_output-clause-fault : goal.returns-in_err-write_output-clause-fault
returns-in_err-write_output-clause-fault g c =
    let p = err_from_is_err_and c.from_residual-in_err-write_output.result c.from_residual-in_err-write_output.ensures.1 in
    rw (p.1, p.2) (run_stopped (IsSheetText c.args.asked c.args.hits.now) IsFindFault (g.R.Read.remaining c.args.reader.now) (g.W.Write.contents c.args.writer.now) (g.W.Write.contents c.write_output.new.writer)
    c.in_ok-input.input.items c.in_ok-sheet.sheet.items c.in_err-write_output.field-0.0 c.in_ok-input.ensures.input
    (subst (λ bytes. IsSheetText c.args.asked c.args.hits.now bytes c.in_ok-sheet.sheet.items) c.deref.ensures.value c.in_ok-sheet.ensures.text)
    (subst (λ text. WroteFront (g.W.Write.contents c.args.writer.now) (g.W.Write.contents c.write_output.new.writer) text c.in_err-write_output.field-0.0) c.deref-2.ensures.value c.in_err-write_output.ensures.front))

pub returns-clause-done : goal.returns-clause-done
returns-clause-done g c =
    run_done (IsSheetText c.args.asked c.args.hits.now) (g.R.Read.remaining c.args.reader.now) (g.W.Write.contents c.args.writer.now) (g.W.Write.contents c.write_output.new.writer)
    c.in_ok-input.input.items c.in_ok-sheet.sheet.items c.in_ok-input.ensures.input
    (subst (λ bytes. IsSheetText c.args.asked c.args.hits.now bytes c.in_ok-sheet.sheet.items) c.deref.ensures.value c.in_ok-sheet.ensures.text)
    (subst (λ text. Appends (g.W.Write.contents c.args.writer.now) (g.W.Write.contents c.write_output.new.writer) text) c.deref-2.ensures.value c.in_ok-write_output.ensures.whole)
