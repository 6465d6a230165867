use Rattle.std.proofs.Common.{arith}
use Rattle.std.proofs.lemmas.Grind.{common_steps}
use Rattle.probe_core.proofs.Beginning.{free_words_show_none}
use Rattle.probe_core.proofs.solo.SoloTable.new.Goals as goal

pub returns-clause-empty : goal.returns-clause-empty
returns-clause-empty g c = grind (arith, common_steps, free_words_show_none)
