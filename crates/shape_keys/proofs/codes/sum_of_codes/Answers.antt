use Rattle.std.proofs.Common.{◌-◌, ◌*◌, ◌+◌, ◌∙◌, ap, arith}
use Rattle.shape_keys.proofs.Sums.{none_left, small_from, one_more}
use Rattle.shape_keys.proofs.codes.sum_of_codes.Goals as goal

pub loop-place-init : goal.loop-place-init
loop-place-init c = none_left c.args.codes.now c.told-codes

pub overflow_mul-sum : goal.overflow_mul-sum
overflow_mul-sum c =
    let h = small_from c.args.codes.now (25 - c.loop-place.place) c.loop-place.sum c.told-codes c.loop-place.invariant.0 c.loop-place.invariant.1 in
    omega (arith, h)

pub overflow_add-sum : goal.overflow_add-sum
overflow_add-sum c =
    let h = small_from c.args.codes.now (25 - c.loop-place.place) c.loop-place.sum c.told-codes c.loop-place.invariant.0 c.loop-place.invariant.1 in
    let is = c.from.ensures in
    let low = c.if-code-gt-OFF_BOARD.false in
    omega (arith, h, is, low)

pub loop-place-preserved : goal.loop-place-preserved
loop-place-preserved c =
    let more = one_more c.args.codes.now c.loop-place.place c.loop-place.sum c.told-codes c.loop-place-test.true c.loop-place.invariant.0 c.loop-place.invariant.1 c.if-code-gt-OFF_BOARD.false in
    (ap (λ code. 4 * c.loop-place.sum + code) c.from.ensures ∙ more.0, more.1)

pub returns-clause-small : goal.returns-clause-small
returns-clause-small c =
    small_from c.args.codes.now (25 - c.loop-place.place) c.loop-place.sum c.told-codes c.loop-place.invariant.0 c.loop-place.invariant.1
