use Rattle.std.proofs.lemmas.Result.{err_from_is_err_and}
use Rattle.shape_core.proofs.spelling.from_glyphs.Goals as goal

pub returns-in_err-sum-clause-found : goal.returns-in_err-sum-clause-found
returns-in_err-sum-clause-found c = λ word small same. let clash = c.in_err-sum.ensures.found word small same in cc

pub returns-in_err-sum-clause-glyph : goal.returns-in_err-sum-clause-glyph
returns-in_err-sum-clause-glyph c =
    let p = err_from_is_err_and c.from_residual.result c.from_residual.ensures.1 in rw (p.1, p.2) c.in_err-sum.ensures.glyph

pub returns-clause-found : goal.returns-clause-found
returns-clause-found c = λ word small same. let is = c.in_ok-sum.ensures.found word small same in cc
