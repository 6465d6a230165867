use Rattle.std.proofs.Common.{subst}
use Rattle.std.proofs.lemmas.Result.{err_from_is_err_and}
use Rattle.std.specs.Io.KnownBytes.{Appends}
use Rattle.engine_core.specs.Output.{WroteFront}
use Rattle.engine_core.specs.Finds.{IsFoundText, IsAbsentText, IsFindText, IsFindFault}
use Rattle.engine_core.proofs.Causes.{run_cause}
use Rattle.engine_core.proofs.Runs.{run_done, run_stopped}
use Rattle.engine_core.proofs.finds.run_find.Goals as goal

pub returns-in_err-line-clause-fault : goal.returns-in_err-line-clause-fault
returns-in_err-line-clause-fault g c =
    let p = err_from_is_err_and c.from_residual-in_err-line.result c.from_residual-in_err-line.ensures.1 in
    rw (p.1, p.2) (run_cause (IsFindText c.args.shape) IsFindFault (g.R.Read.remaining c.args.reader.now) (g.W.Write.contents c.args.writer.now)
    c.in_ok-input.input.items c.in_err-line.field-0.0 c.in_ok-input.ensures.input (λ written h. h)
    (subst (λ bytes. IsFindFault bytes c.in_err-line.field-0.0) c.deref.ensures.value c.in_err-line.ensures.fault))

pub returns-in_err-write_output-clause-fault : goal.returns-in_err-write_output-clause-fault
returns-in_err-write_output-clause-fault g c =
    let p = err_from_is_err_and c.from_residual-in_err-write_output.result c.from_residual-in_err-write_output.ensures.1 in
    rw (p.1, p.2) (run_stopped (IsFindText c.args.shape) IsFindFault (g.R.Read.remaining c.args.reader.now) (g.W.Write.contents c.args.writer.now) (g.W.Write.contents c.write_output.new.writer)
    c.in_ok-input.input.items c.in_ok-line.line.items c.in_err-write_output.field-0.0 c.in_ok-input.ensures.input
    (subst (λ bytes. IsFindText c.args.shape bytes c.in_ok-line.line.items) c.deref.ensures.value c.in_ok-line.ensures.text)
    (subst (λ text. WroteFront (g.W.Write.contents c.args.writer.now) (g.W.Write.contents c.write_output.new.writer) text c.in_err-write_output.field-0.0) c.deref-2.ensures.value c.in_err-write_output.ensures.front))

pub returns-clause-done : goal.returns-clause-done
returns-clause-done g c is =
    run_done (IsFoundText c.args.shape) (g.R.Read.remaining c.args.reader.now) (g.W.Write.contents c.args.writer.now) (g.W.Write.contents c.write_output.new.writer)
    c.in_ok-input.input.items c.in_ok-line.line.items c.in_ok-input.ensures.input
    (subst (λ bytes. IsFoundText c.args.shape bytes c.in_ok-line.line.items) c.deref.ensures.value (c.in_ok-line.ensures.done is))
    (subst (λ text. Appends (g.W.Write.contents c.args.writer.now) (g.W.Write.contents c.write_output.new.writer) text) c.deref-2.ensures.value c.in_ok-write_output.ensures.whole)

pub returns-clause-not_found : goal.returns-clause-not_found
returns-clause-not_found g c is =
    run_done (IsAbsentText c.args.shape) (g.R.Read.remaining c.args.reader.now) (g.W.Write.contents c.args.writer.now) (g.W.Write.contents c.write_output.new.writer)
    c.in_ok-input.input.items c.in_ok-line.line.items c.in_ok-input.ensures.input
    (subst (λ bytes. IsAbsentText c.args.shape bytes c.in_ok-line.line.items) c.deref.ensures.value (c.in_ok-line.ensures.not_found is))
    (subst (λ text. Appends (g.W.Write.contents c.args.writer.now) (g.W.Write.contents c.write_output.new.writer) text) c.deref-2.ensures.value c.in_ok-write_output.ensures.whole)
