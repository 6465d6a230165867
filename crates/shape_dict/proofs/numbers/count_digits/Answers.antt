use Rattle.std.proofs.Common.{◌≤◌, ◌<◌, length, get_or, arith}
use Rattle.std.proofs.lemmas.Grind.{common_steps}
use Rattle.std.proofs.lemmas.List.{take_more}
use Rattle.shape_dict.proofs.Decimals.{digits_push}
use Rattle.shape_dict.proofs.numbers.count_digits.Goals as goal

pub loop-count-preserved : goal.loop-count-preserved
loop-count-preserved c =
    let bytes = c.args.bytes.now in
    let at = c.loop-count.count in
    let inside : at < length bytes = omega arith in
    let low : 48 ≤ get_or bytes at 0 = grind (arith, common_steps) in
    let high : get_or bytes at 0 ≤ 57 = grind (arith, common_steps) in
    record { fits = omega arith; digits = rw (take_more bytes at 0 inside) (digits_push _ _ c.loop-count.invariant.digits low high) }
