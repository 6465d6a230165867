use Rattle.std.proofs.Common.{inl, refl}
use Rattle.command_lines.specs.Values.{rows_in}
use Rattle.shapes_line.proofs.words.find_task.Goals as goal

pub returns-in-Ok-clause-task : goal.returns-in-Ok-clause-task
returns-in-Ok-clause-task c = (rows_in c.args.matches.now, refl, c.in-Ok.ensures.shape)

pub returns-in-Err-clause-fault : goal.returns-in-Err-clause-fault
returns-in-Err-clause-fault c = inl (rows_in c.args.matches.now, refl, c.in-Err.ensures.fault)
