use Rattle.std.proofs.Common.{map, inl, subst}
use Rattle.std.specs.Prelude.{string_bytes}
use Rattle.std.proofs.lemmas.Result.{err_from_is_err_and}
use Rattle.clap.specs.Words.{App}
use Rattle.command_lines.specs.Lines.{IsLineFault}
use Rattle.command_lines.proofs.from_arguments.read_arguments.Goals as goal

pub returns-in_err-matches-clause-fault : goal.returns-in_err-matches-clause-fault
returns-in_err-matches-clause-fault g c =
    let words = map string_bytes c.args.words.now in
    let p = err_from_is_err_and c.from_residual-in_err-matches.result c.from_residual-in_err-matches.ensures.1 in
    rw (p.1, p.2) (inl (subst (λ (app : App). IsLineFault app words c.in_err-matches.field-0.0) c.in_ok-program.ensures c.in_err-matches.ensures.fault))
