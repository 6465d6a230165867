use Rattle.std.proofs.Common.{rules}
use Rattle.table_harvest.proofs.reading.read_games.Goals as goal

pub returns-clause-reading : goal.returns-clause-reading
returns-clause-reading g c = record {
  own_is = search rules;
  pass = c.read_all-outcome.ensures.pass;
  number = search rules;
  worked_is = search rules;
  calls = c.read_all-outcome.ensures.calls;
  table = c.read_all-outcome.ensures.table;
  all = search rules;
  dealt = search rules;
  fault_is = search rules;
}
