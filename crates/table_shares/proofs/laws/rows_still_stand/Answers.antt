use Rattle.table_shares.proofs.Standings.{stand_grown, stand_kept}
use Rattle.table_shares.proofs.laws.rows_still_stand.Goals as goal

pub returns-clause-added : goal.returns-clause-added
returns-clause-added c = stand_grown

pub returns-clause-refused : goal.returns-clause-refused
returns-clause-refused c = stand_kept
