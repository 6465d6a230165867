use Rattle.std.proofs.Common.{rules, ◌≡◌, codes, Some}
use Rattle.clap.specs.Words.{found_of, rows_of, subcommand_rows_of}
use Rattle.shapes_line.proofs.Asked.{count_fault}
use Rattle.shapes_line.proofs.words.task_of.Goals as goal

pub returns-in-Some-count-default-clause-fault : goal.returns-in-Some-count-default-clause-fault
returns-in-Some-count-default-clause-fault c =
    let rows = rows_of (found_of c.in-Some-count-default.found.now) in
    let asked : subcommand_rows_of c.args.matches.now ≡ Some (codes "count", rows) = search rules in
    count_fault (subcommand_rows_of c.args.matches.now) rows c.count_task.result asked c.count_task.ensures.fault
