use Rattle.std.proofs.Common.{◌-◌, ◌<◌, ◌∙◌, sym, ap, length, arith, rules, Some, ℕ}
use Rattle.shape_dict.proofs.Begun.{last_at}
use Rattle.shape_dict.proofs.Climbing.{shape_at}
use Rattle.shape_dict.proofs.reading.last_shape.Goals as goal

pub returns : goal.returns
returns c =
    let es = c.args.entries.now in
    let some : 0 < length es = search rules in
    ap (λ (x : ℕ). Some x) (sym (shape_at es (length es - 1) c.index-entries-entries.result (omega arith))) ∙ sym (last_at es some)
