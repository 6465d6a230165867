use Rattle.std.proofs.Common.{subst, List, ℕ, option_map}
use Rattle.std.specs.Borrow.{Bor}
use Rattle.std.specs.Io.KnownBytes.{Appends}
use Rattle.std.proofs.lemmas.Result.{err_from_is_err_and}
use Rattle.engine_core.specs.Output.{WroteFront}
use Rattle.engine_core.proofs.Runs.{run_done, run_stopped}
use Rattle.twins_core.specs.Runs.{IsTwinsText, HasTwinsText, IsTwinsFault}
use Rattle.twins_core.proofs.runs.run_twins.Goals as goal

pub returns-in_err-write_output-clause-fault : goal.returns-in_err-write_output-clause-fault
returns-in_err-write_output-clause-fault g c = λ before knows.
    let p = err_from_is_err_and c.from_residual-in_err-write_output.result c.from_residual-in_err-write_output.ensures.1 in
    let name = option_map (λ (n : Bor (List ℕ)). n.now) c.args.name in
    let kept = c.twins_text.new.twins in
    let found = c.in_ok-text.found in
    let text = c.in_ok-text.text.items in
    rw (p.1, p.2) (run_stopped (HasTwinsText c.args.first name before kept) IsTwinsFault (g.R.Read.remaining c.args.reader.now) (g.W.Write.contents c.args.writer.now) (g.W.Write.contents c.write_output.new.writer)
    c.in_ok-input.input.items text c.in_err-write_output.field-0.0 c.in_ok-input.ensures.input
    (found, subst (λ bytes. IsTwinsText c.args.first name before kept found bytes text) c.deref.ensures.value (c.in_ok-text.ensures.text before knows))
    (subst (λ t. WroteFront (g.W.Write.contents c.args.writer.now) (g.W.Write.contents c.write_output.new.writer) t c.in_err-write_output.field-0.0) c.deref-2.ensures.value c.in_err-write_output.ensures.front))

pub returns-clause-done : goal.returns-clause-done
returns-clause-done g c = λ before knows.
    let name = option_map (λ (n : Bor (List ℕ)). n.now) c.args.name in
    let kept = c.twins_text.new.twins in
    let found = c.in_ok-text.found in
    let text = c.in_ok-text.text.items in
    run_done (IsTwinsText c.args.first name before kept found) (g.R.Read.remaining c.args.reader.now) (g.W.Write.contents c.args.writer.now)
    (g.W.Write.contents c.write_output.new.writer) c.in_ok-input.input.items text c.in_ok-input.ensures.input
    (subst (λ bytes. IsTwinsText c.args.first name before kept found bytes text) c.deref.ensures.value (c.in_ok-text.ensures.text before knows))
    (subst (λ t. Appends (g.W.Write.contents c.args.writer.now) (g.W.Write.contents c.write_output.new.writer) t) c.deref-2.ensures.value c.in_ok-write_output.ensures.whole)
