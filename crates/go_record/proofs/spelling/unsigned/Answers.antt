use Rattle.std.proofs.Common.{◌∙◌, sym, ap, ◌+◌, ◌*◌, min, arith}
use Rattle.go_record.proofs.Digits.{digits_left, number_left}
use Rattle.go_record.proofs.spelling.unsigned.Goals as goal

pub loop-digit-preserved : goal.loop-digit-preserved
loop-digit-preserved c = record {
  small = omega (arith, c.min-total.ensures);
  digits = digits_left c.args.digits.now c.loop-digit.digit-index (omega arith) (sym c.is_digit.ensures ∙ c.if-not-is_digit.false) c.loop-digit.invariant.digits;
  number = number_left c.args.digits.now c.loop-digit.digit-index c.loop-digit.total c.min-total.result (omega arith)
      (c.min-total.ensures ∙ ap (λ n. min (10 * c.loop-digit.total + n) 100) c.from.ensures) ∙ c.loop-digit.invariant.number;
}
