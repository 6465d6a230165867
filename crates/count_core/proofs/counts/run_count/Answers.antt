use Rattle.std.proofs.Common.{◌^◌, subst}
use Rattle.std.proofs.lemmas.Result.{err_from_is_err_and}
use Rattle.count_core.specs.Counts.{HasCountText, IsCountRunFault}
use Rattle.engine_core.proofs.Causes.{run_cause}
use Rattle.count_core.proofs.counts.run_count.Goals as goal

pub returns-in_err-written-clause-fault : goal.returns-in_err-written-clause-fault
returns-in_err-written-clause-fault g c =
    let p = err_from_is_err_and c.from_residual-in_err-written.result c.from_residual-in_err-written.ensures.1 in
    rw (p.1, p.2) (run_cause (HasCountText (2 ^ c.args.settings.k) c.args.settings.kinds c.args.text) (IsCountRunFault (2 ^ c.args.settings.k) c.args.settings.kinds)
    (g.R.Read.remaining c.args.reader.now) (g.W.Write.contents c.args.writer.now)
    c.in_ok-input.input.items c.in_err-written.field-0.0 c.in_ok-input.ensures.input (λ written h. h)
    (subst (λ bytes. IsCountRunFault (2 ^ c.args.settings.k) c.args.settings.kinds bytes c.in_err-written.field-0.0) c.deref.ensures.value c.in_err-written.ensures.fault))
