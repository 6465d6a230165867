use Rattle.std.proofs.Common.{map}
use Rattle.std.proofs.lemmas.Result.{err_from_is_err_and}
use Rattle.std.specs.Prelude.{string_bytes}
use Rattle.clap.specs.Values.{kind_of}
use Rattle.clap.specs.Words.{app_of, is_simple}
use Rattle.clap.specs.Faults.{is_free_app}
use Rattle.clap.specs.Simple.{built}
use Rattle.command_lines.proofs.Told.{both_first, refused}
use Rattle.command_lines.proofs.lines.read_line.Goals as goal

pub returns-in_err-told-in-Err-clause-fault : goal.returns-in_err-told-in-Err-clause-fault
returns-in_err-told-in-Err-clause-fault c =
    let app = app_of c.args.program in
    let words = map string_bytes c.args.words.now in
    let p = err_from_is_err_and c.from_residual.result c.from_residual.ensures.1 in
    rw (p.1, p.2) (refused app words (kind_of c.in-Err.error) c.in_err-told-in-Err.field-0.0 (c.in-Err.ensures.kinds c.requires) c.in_err-told-in-Err.ensures.fault)

pub returns-in-Ok-clause-line : goal.returns-in-Ok-clause-line
returns-in-Ok-clause-line c =
    let app = app_of c.args.program in
    let are = c.in-Ok.ensures.matches (both_first (is_simple app) (is_free_app (built app)) c.requires) in
    (c.in-Ok.ensures.kinds c.requires, record { rows = are.0; subcommand = are.1 })
