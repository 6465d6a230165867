use Rattle.std.proofs.Common.{inr, refl, subst}
use Rattle.command_lines.specs.Patterns.{IsKindOf}
use Rattle.command_lines.specs.Values.{rows_in}
use Rattle.shape_hits.proofs.words.listed.Goals as goal

pub returns-in-Square-clause-patterns : goal.returns-in-Square-clause-patterns
returns-in-Square-clause-patterns c = (c.requires, subst (IsKindOf (rows_in c.args.matches.now)) c.in-Square.is c.kind_of.ensures)

pub returns-in-Diamond-clause-fault : goal.returns-in-Diamond-clause-fault
returns-in-Diamond-clause-fault c = inr (refl, (c.requires, subst (IsKindOf (rows_in c.args.matches.now)) c.in-Diamond.is c.kind_of.ensures))
