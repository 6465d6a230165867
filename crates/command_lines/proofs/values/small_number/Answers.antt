use Rattle.std.proofs.Common.{sym}
use Rattle.clap.specs.Words.{found_of, one_text}
use Rattle.clap.proofs.WalkLemmas.{one_text-rows}
use Rattle.command_lines.specs.Values.{rows_in}
use Rattle.command_lines.proofs.Numbers.{number_read, number_missing}
use Rattle.command_lines.proofs.values.small_number.Goals as goal

pub returns-clause-number : goal.returns-clause-number
returns-clause-number c =
    let name = c.args.name.now in
    let found = found_of c.args.matches.now in
    number_read 8 name (rows_in c.args.matches.now) (one_text found name) c.get_one.result (sym (one_text-rows found name)) c.get_one.ensures.none c.get_one.ensures.value

pub returns-clause-none : goal.returns-clause-none
returns-clause-none c =
    let name = c.args.name.now in
    let found = found_of c.args.matches.now in
    number_missing 8 name (rows_in c.args.matches.now) (one_text found name) c.get_one.result (sym (one_text-rows found name)) c.get_one.ensures.value
