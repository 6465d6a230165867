use Rattle.std.proofs.Common.{ap, ◌∙◌}
use Rattle.table_shares.proofs.Common.{earlier, option_or}
use Rattle.table_shares.proofs.Strangers.{sums_with}
use Rattle.table_shares.proofs.numbers.add.Goals as goal

pub returns : goal.returns
returns c rows more number numbers is h =
    let sums = c.args.sums in
    sums_with rows more number c.args.found sums (record { first = c.earlier.result; stranger = c.or.result }) c.args.row numbers is h
    (c.earlier.ensures ∙ ap (earlier sums.first) c.get.ensures) (c.or.ensures ∙ ap (option_or sums.stranger) c.unlike.ensures)
