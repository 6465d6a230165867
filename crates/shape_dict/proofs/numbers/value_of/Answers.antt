use Rattle.std.proofs.Common.{◌+◌, ◌-◌, ◌*◌, get_or, drop, arith}
use Rattle.std.proofs.lemmas.List.{at_drop_more}
use Rattle.shape_dict.specs.Inner.Parsing.{read_on}
use Rattle.shape_dict.proofs.Decimals.{read_on_ge}
use Rattle.shape_dict.proofs.numbers.value_of.Goals as goal

pub returns-then-value-digit : goal.returns-then-value-digit
returns-then-value-digit c = λ small.
    let digits = c.args.digits.now in
    let i = c.loop-byte.byte-index in
    let v = c.loop-byte.value in
    let step = at_drop_more (read_on v) digits i 0 (omega arith) in
    let large = read_on_ge (10 * v + (get_or digits i 0 - 48)) (drop (i + 1) digits) in
    let all = c.loop-byte.invariant.left in
    let digit = c.from-digit.ensures in
    let over = c.if-value-digit.true in
    omega arith
