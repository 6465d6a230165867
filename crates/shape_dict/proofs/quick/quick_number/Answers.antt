use Rattle.std.proofs.Common.{◌≡◌, ◌<◌, get_or, arith}
use Rattle.std.proofs.lemmas.List.{take_rest}
use Rattle.shape_dict.proofs.Decimals.{spelled}
use Rattle.shape_dict.proofs.quick.quick_number.Goals as goal
use Rattle.shape_dict.proofs.quick.quick_number.Goals.{else-count-gt1-via-then-count-gt1+else-bytes-eq48, else-count-gt1-via-else-count-gt1}

pub returns : goal.returns
returns c =
    let bytes = c.args.bytes.now in
    let count = c.quick_digits-value.result.1 in
    let d = c.quick_digits-value.ensures in
    let first : 1 < count → get_or bytes 0 0 ≡ 48 → ⊥ = λ long zero. elim c.else-count-gt1.branch [ else-count-gt1-via-then-count-gt1+else-bytes-eq48 w ↦ w.if-bytes-eq48.false zero | else-count-gt1-via-else-count-gt1 w ↦ omega arith ] in
    (rw (take_rest bytes count) (rw d.value (spelled bytes count d.fits d.digits (omega arith) first (omega (arith, d.value, d.small)))), d.small)
