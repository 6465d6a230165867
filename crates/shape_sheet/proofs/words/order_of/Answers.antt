use Rattle.std.proofs.Common.{Some, ap, sym, ◌∙◌}
use Rattle.std.proofs.lemmas.Option.{IfSome_then}
use Rattle.command_lines.specs.Values.{rows_in}
use Rattle.shape_sheet.proofs.Asked.{other_name, no_name}
use Rattle.shape_sheet.proofs.words.order_of.Goals as goal

pub returns-in-Some-clause-found : goal.returns-in-Some-clause-found
returns-in-Some-clause-found c =
    IfSome_then c.order_named.result c.order_named.ensures.found (λ order same. sym c.in-Some.ensures ∙ ap Some same)

pub returns-in-Some-clause-none : goal.returns-in-Some-clause-none
returns-in-Some-clause-none c =
    other_name (rows_in c.args.matches.now) c.in-Some.name.now c.order_named.result (sym c.in-Some.ensures) c.order_named.ensures.none

pub returns-in-None-clause-none : goal.returns-in-None-clause-none
returns-in-None-clause-none c = no_name (rows_in c.args.matches.now) (sym c.in-None.ensures)
