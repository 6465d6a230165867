use Rattle.std.proofs.Common.{subst}
use Rattle.std.proofs.lemmas.Result.{err_from_is_err_and}
use Rattle.engine_core.specs.Output.{WroteFront}
use Rattle.engine_core.proofs.Runs.{run_stopped}
use Rattle.hits_core.specs.Runs.{IsHitsText, HasHitsText, IsHitsFault}
use Rattle.hits_core.proofs.runs.run_hits.Goals as goal

pub returns-in_err-write_output-clause-fault : goal.returns-in_err-write_output-clause-fault
returns-in_err-write_output-clause-fault g c =
    let search = c.args.search in
    let words = c.args.wanted.now in
    let p = err_from_is_err_and c.from_residual-in_err-write_output.result c.from_residual-in_err-write_output.ensures.1 in
    rw (p.1, p.2) (run_stopped (HasHitsText search words) IsHitsFault (g.R.Read.remaining c.args.reader.now) (g.W.Write.contents c.args.writer.now) (g.W.Write.contents c.write_output.new.writer)
    c.in_ok-input.input.items c.in_ok-text.text.items c.in_err-write_output.field-0.0 c.in_ok-input.ensures.input
    (c.in_ok-text.results, subst (λ bytes. IsHitsText search words c.in_ok-text.results bytes c.in_ok-text.text.items) c.deref.ensures.value c.in_ok-text.ensures.text)
    (subst (λ text. WroteFront (g.W.Write.contents c.args.writer.now) (g.W.Write.contents c.write_output.new.writer) text c.in_err-write_output.field-0.0) c.deref-2.ensures.value c.in_err-write_output.ensures.front))
