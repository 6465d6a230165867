use Rattle.std.proofs.Common.{◌∙◌, ap}
use Rattle.sgf_core.specs.Inner.Lines.{line_of}
use Rattle.sgf_core.proofs.LineLemmas.{line-marks}
use Rattle.sgf_core.proofs.written.Tree.main_line.Goals as goal

pub returns-clause-line : goal.returns-clause-line
returns-clause-line c tree is = c.new.ensures ∙ (ap line_of (c.marks.ensures.marks ∙ is) ∙ line-marks tree)
