use Rattle.std.proofs.Common.{◌≡◌, ◌<◌, ◌^◌, ◌+◌, ◌*◌, ◌%◌, get_or, take, length, ap, ◌∙◌, sym, arith, below_more, Ok}
use Rattle.std.proofs.lemmas.List.{take_all}
use Rattle.std.proofs.lemmas.Bool.{false≢true}
use Rattle.shape_core.specs.Glyph.{glyphs_of, is_glyph}
use Rattle.shape_core.proofs.Codes.{kind_below}
use Rattle.shape_core.proofs.Spelled.{same_from_glyphs, each_is_glyph, length-glyphs_of, sum_of_glyphs, sum_of_glyphs-nil, sum_of_glyphs-more, sum_of_glyphs_fits, sum_of_glyphs-lt, glyphs_of-sum}
use Rattle.shape_core.proofs.spelling.sum_of_glyphs.Goals as goal

pub loop-at-init : goal.loop-at-init
loop-at-init c = (sym sum_of_glyphs-nil, λ k h. absurd (omega arith))

one_more : (c : goal.After-from) → sum_of_glyphs (take (c.loop-at.at + 1) c.args.bytes.now) ≡ c.loop-at.sum + c.from.result * 2 ^ (2 * c.loop-at.at) % 2 ^ 64
one_more c =
    let bytes = c.args.bytes.now in
    let code = c.in-Some.ensures.value in
    let same : c.from.result ≡ c.in-Some.code = c.from.ensures in
    rw same (rw (c.loop-at.invariant.0) (sum_of_glyphs-more bytes c.loop-at.at c.in-Some.code (omega arith) c.if-bytes-ne25.false code.0 code.1))

pub overflow_add-sum : goal.overflow_add-sum
overflow_add-sum c =
    omega (arith, one_more c, sum_of_glyphs_fits c.args.bytes.now (c.loop-at.at + 1) (omega arith) c.if-bytes-ne25.false)

pub loop-at-preserved : goal.loop-at-preserved
loop-at-preserved c = (sym (one_more c), below_more _ _ c.loop-at.invariant.1 (sym c.in-Some.ensures.some))

-- after the loop the sum is that of all the bytes
whole_sum : (c : goal.After-loop-at) → (c.loop-at.sum < 2 ^ 50) × (glyphs_of c.loop-at.sum ≡ c.args.bytes.now)
whole_sum c =
    let bytes = c.args.bytes.now in
    let count = c.if-bytes-ne25.false in
    let whole : c.loop-at.sum ≡ sum_of_glyphs bytes = c.loop-at.invariant.0 ∙ ap sum_of_glyphs (take_all c.loop-at.at bytes (omega arith)) in
    (rw whole (sum_of_glyphs-lt bytes count), rw whole (glyphs_of-sum bytes count (λ i h. c.loop-at.invariant.1 i (omega arith))))

pub returns-clause-ok : goal.returns-clause-ok
returns-clause-ok c = whole_sum c

pub returns-then-bytes-ne25-clause-found : goal.returns-then-bytes-ne25-clause-found
returns-then-bytes-ne25-clause-found c = λ sum small same.
    absurd (c.if-bytes-ne25.true (ap length (sym same) ∙ length-glyphs_of sum))

pub returns-in_default-clause-found : goal.returns-in_default-clause-found
returns-in_default-clause-found c = λ sum small same.
    let count = ap length (sym same) ∙ length-glyphs_of sum in
    let bad = c.in_default.ensures.some in
    let good = ap (λ gs. is_glyph (get_or gs c.loop-at.at 0)) (sym same) ∙ each_is_glyph sum c.loop-at.at (omega arith) in
    absurd (false≢true (bad ∙ good))

pub returns-clause-found : goal.returns-clause-found
returns-clause-found c = λ sum small same.
    let found = whole_sum c in
    ap Ok (same_from_glyphs c.loop-at.sum sum (omega (arith, found.0)) (omega arith)
    (kind_below c.loop-at.sum found.0 ∙ sym (kind_below sum small)) (found.1 ∙ sym same))
