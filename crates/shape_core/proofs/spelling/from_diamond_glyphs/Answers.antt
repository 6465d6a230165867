use Rattle.std.proofs.Common.{◌≡◌, ◌+◌, ◌-◌, ◌^◌, ap, ◌∙◌, sym, arith}
use Rattle.std.proofs.lemmas.Result.{err_from_is_err_and}
use Rattle.shape_core.specs.Glyph.{glyphs_of}
use Rattle.shape_core.proofs.Spelled.{glyphs_of-diamond}
use Rattle.shape_core.proofs.spelling.from_diamond_glyphs.Goals as goal

pub returns-in_err-sum-clause-found : goal.returns-in_err-sum-clause-found
returns-in_err-sum-clause-found c = λ word low high same.
    let sum : 2 ^ 50 + (word - 2 ^ 50) ≡ word = omega arith in
    let glyphs = sym (glyphs_of-diamond (word - 2 ^ 50) (omega arith)) ∙ ap glyphs_of sum ∙ same in
    let clash = c.in_err-sum.ensures.found (word - 2 ^ 50) (omega arith) glyphs in
    cc

pub returns-in_err-sum-clause-glyph : goal.returns-in_err-sum-clause-glyph
returns-in_err-sum-clause-glyph c =
    let p = err_from_is_err_and c.from_residual.result c.from_residual.ensures.1 in rw (p.1, p.2) c.in_err-sum.ensures.glyph

pub returns-clause-ok : goal.returns-clause-ok
returns-clause-ok c =
    let ok = c.in_ok-sum.ensures.ok in
    rw (c.of_bits.ensures) ((omega (arith, ok.0)), (omega (arith, ok.0)), glyphs_of-diamond c.in_ok-sum.sum ok.0 ∙ ok.1)

pub returns-clause-found : goal.returns-clause-found
returns-clause-found c = λ word low high same.
    let sum : 2 ^ 50 + (word - 2 ^ 50) ≡ word = omega arith in
    let glyphs = sym (glyphs_of-diamond (word - 2 ^ 50) (omega arith)) ∙ ap glyphs_of sum ∙ same in
    let is = c.in_ok-sum.ensures.found (word - 2 ^ 50) (omega arith) glyphs in
    cc
