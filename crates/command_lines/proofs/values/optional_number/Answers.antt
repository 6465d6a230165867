use Rattle.std.proofs.Common.{sym}
use Rattle.command_lines.specs.Values.{rows_in}
use Rattle.command_lines.proofs.Numbers.{no_optional}
use Rattle.command_lines.proofs.values.optional_number.Goals as goal

pub returns-in-None-number-clause-none : goal.returns-in-None-number-clause-none
returns-in-None-number-clause-none c =
    no_optional c.args.name.now (rows_in c.args.matches.now) c.in-Some.field-0.now (sym c.in-Some.ensures) c.in-None-number.ensures.none

pub returns-in-None-clause-number : goal.returns-in-None-clause-number
returns-in-None-clause-number c = sym c.in-None.ensures
