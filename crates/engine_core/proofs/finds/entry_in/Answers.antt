use Rattle.std.proofs.lemmas.Result.{err_from_is_err_and}
use Rattle.engine_core.proofs.Found.{find_cause}
use Rattle.engine_core.proofs.finds.entry_in.Goals as goal

pub returns-in_err-dictionary-clause-fault : goal.returns-in_err-dictionary-clause-fault
returns-in_err-dictionary-clause-fault c =
    let p = err_from_is_err_and c.from_residual.result c.from_residual.ensures.1 in
    rw (p.1, p.2) (find_cause c.args.input.now c.in_err-dictionary.field-0.0 c.in_err-dictionary.ensures.fault c.in_err-dictionary.ensures.only)
