use Rattle.std.proofs.Common.{refl}
use Rattle.command_lines.specs.Values.{rows_in}
use Rattle.shapes_line.proofs.Asked.{no_settings_text, no_settings_workers, no_settings_bits}
use Rattle.shapes_line.proofs.words.count_task.Goals as goal

pub returns-in_default-clause-fault : goal.returns-in_default-clause-fault
returns-in_default-clause-fault c = (refl, no_settings_text (rows_in c.args.matches.now) c.in_default.ensures.none)

pub returns-in_default-small_number-clause-fault : goal.returns-in_default-small_number-clause-fault
returns-in_default-small_number-clause-fault c = (refl, no_settings_workers (rows_in c.args.matches.now) c.in_default-small_number.ensures.none)

pub returns-in_default-small_number-2-clause-fault : goal.returns-in_default-small_number-2-clause-fault
returns-in_default-small_number-2-clause-fault c = (refl, no_settings_bits (rows_in c.args.matches.now) c.in_default-small_number-2.ensures.none)
