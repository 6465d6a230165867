use Rattle.shape_core.proofs.keeping.recode_row.Goals as goal

-- no point of the board has the point in this row
pub returns-in_default-clause-there : goal.returns-in_default-clause-there
returns-in_default-clause-there c = λ q on sees. absurd (c.in_default.ensures q on (rw c.row_at-side.ensures.row sees.0))
