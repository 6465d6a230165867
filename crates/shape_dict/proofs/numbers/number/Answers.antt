use Rattle.std.proofs.Common.{◌≡◌, ◌<◌, ◌∙◌, get_or, arith}
use Rattle.std.proofs.lemmas.List.{take_rest}
use Rattle.shape_dict.proofs.Decimals.{none_without_digits, none_with_zero, none_too_large, value_is, spelled}
use Rattle.shape_dict.proofs.numbers.number.Goals as goal
use Rattle.shape_dict.proofs.numbers.number.Goals.{else-count-gt1-via-then-count-gt1+else-bytes-eq48, else-count-gt1-via-else-count-gt1}

pub returns-then-count-eq0-clause-only : goal.returns-then-count-eq0-clause-only
returns-then-count-eq0-clause-only c = λ n left small over e.
    let zero : c.count_digits-count.result ≡ 0 = omega arith in
    none_without_digits c.args.bytes.now n left (rw zero at c.count_digits-count.ensures.digits) (rw zero at c.count_digits-count.ensures.ended) small over e

pub returns-then-bytes-eq48-clause-only : goal.returns-then-bytes-eq48-clause-only
returns-then-bytes-eq48-clause-only c = λ n left small over e.
    none_with_zero c.args.bytes.now c.count_digits-count.result n left c.count_digits-count.ensures.fits c.count_digits-count.ensures.digits c.count_digits-count.ensures.ended c.if-count-gt1.true c.if-bytes-eq48.true small over e

pub returns-in_err-value-clause-only : goal.returns-in_err-value-clause-only
returns-in_err-value-clause-only c = λ n left small over e.
    let bytes = c.args.bytes.now in
    let count = c.count_digits-count.result in
    absurd (none_too_large bytes count n left c.count_digits-count.ensures.digits c.count_digits-count.ensures.ended c.in_err-value.ensures small over e)

pub returns-clause-found : goal.returns-clause-found
returns-clause-found c =
    let bytes = c.args.bytes.now in
    let count = c.count_digits-count.result in
    let v = c.in_ok-value.ensures in
    let first : 1 < count → get_or bytes 0 0 ≡ 48 → ⊥ = λ long zero. elim c.else-count-gt1.branch [ else-count-gt1-via-then-count-gt1+else-bytes-eq48 w ↦ w.if-bytes-eq48.false zero | else-count-gt1-via-else-count-gt1 w ↦ omega arith ] in
    rw (take_rest bytes count) (rw v.1 (spelled bytes count c.count_digits-count.ensures.fits c.count_digits-count.ensures.digits (omega arith) first v.0), rw v.1 v.0, c.count_digits-count.ensures.ended)

pub returns-clause-only : goal.returns-clause-only
returns-clause-only c = λ n left small over e.
    let bytes = c.args.bytes.now in
    let count = c.count_digits-count.result in
    let v = c.in_ok-value.ensures in
    let is = value_is bytes count n left c.count_digits-count.ensures.digits c.count_digits-count.ensures.ended small over e in
    rw (take_rest bytes count) (v.1 ∙ is.0, is.1)
