use Rattle.table_shares.proofs.Found.{numbers_of}
use Rattle.table_shares.proofs.rows.Rows.as_slice.Goals as goal

pub returns-clause-numbers : goal.returns-clause-numbers
returns-clause-numbers c = rw c.self.view_is at (numbers_of c.self.invariant.0)
