use Rattle.std.proofs.Common.{inl, map, subst}
use Rattle.std.specs.Prelude.{string_bytes}
use Rattle.std.proofs.lemmas.Result.{err_from_is_err_and}
use Rattle.clap.specs.Words.{App, app_of}
use Rattle.command_lines.specs.Lines.{IsLineFault}
use Rattle.shapes_line.proofs.Asked.{taken_by, task_answered, task_refused}
use Rattle.shapes_line.proofs.words.read_arguments.Goals as goal

pub returns-in_err-matches-clause-fault : goal.returns-in_err-matches-clause-fault
returns-in_err-matches-clause-fault c =
    let words = map string_bytes c.args.words.now in
    let p = err_from_is_err_and c.from_residual-in_err-matches.result c.from_residual-in_err-matches.ensures.1 in
    rw (p.1, p.2) (inl (subst (λ (app : App). IsLineFault app words c.in_err-matches.field-0.0) c.in_ok-program.ensures c.in_err-matches.ensures.fault))

pub returns-in-Asked-clause-task : goal.returns-in-Asked-clause-task
returns-in-Asked-clause-task c =
    let words = map string_bytes c.args.words.now in
    let are = taken_by (app_of c.in_ok-program.field-0) words c.in_ok-matches.field-0 c.in-Asked.matches c.in_ok-program.ensures c.in-Asked.is c.in_ok-matches.ensures.line in
    task_answered words c.in-Asked.matches c.task_of.result are c.task_of.ensures.task

pub returns-in-Asked-clause-fault : goal.returns-in-Asked-clause-fault
returns-in-Asked-clause-fault c =
    let words = map string_bytes c.args.words.now in
    let are = taken_by (app_of c.in_ok-program.field-0) words c.in_ok-matches.field-0 c.in-Asked.matches c.in_ok-program.ensures c.in-Asked.is c.in_ok-matches.ensures.line in
    task_refused words c.in-Asked.matches c.task_of.result are c.task_of.ensures.fault
