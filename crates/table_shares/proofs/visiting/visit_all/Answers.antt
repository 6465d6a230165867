use Rattle.table_shares.proofs.Visits.{asks_through}
use Rattle.table_shares.proofs.visiting.visit_all.Goals as goal

pub returns-in_err-visit-clause-later : goal.returns-in_err-visit-clause-later
returns-in_err-visit-clause-later g c = asks_through c.loop-number.invariant.later c.visit.ensures.later

pub loop-number-preserved : goal.loop-number-preserved
loop-number-preserved g c = record {
  pass = c.visit.ensures.pass;
  later = asks_through c.loop-number.invariant.later c.visit.ensures.later;
  visited = c.in_ok-visit.ensures.ok c.args.pass.now c.loop-number.invariant.visited;
}
