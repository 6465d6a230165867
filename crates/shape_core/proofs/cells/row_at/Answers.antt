use Rattle.shape_core.proofs.Rows.{square_first}
use Rattle.shape_core.proofs.cells.row_at.Goals as goal

pub returns-in-Square-clause-first : goal.returns-in-Square-clause-first
returns-in-Square-clause-first c = rw c.in-Square.is (square_first c.args.index (rw c.in-Square.is at c.requires))
