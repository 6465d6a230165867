use Rattle.std.proofs.Common.{sym, ◌∙◌}
use Rattle.shape_hits.proofs.words.is_given.Goals as goal

pub returns-in-Some : goal.returns-in-Some
returns-in-Some c = λ none. let bad = c.in-Some.ensures ∙ none in cc

pub returns-in-None : goal.returns-in-None
returns-in-None c = sym c.in-None.ensures
