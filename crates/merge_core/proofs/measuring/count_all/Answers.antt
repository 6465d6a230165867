use Rattle.std.proofs.Common.{◌≡◌, ◌+◌, ◌*◌, ◌/◌, ◌%◌, ◌<◌, ◌≤◌, min, arith, ap, sym, subst, ◌∙◌, ℕ, zero, suc, List, length, Result}
use Rattle.std.proofs.lemmas.Grind.{div_ceil_times}
use Rattle.merge_core.specs.declared.entries.NextFault.{NextFault}
use Rattle.merge_core.specs.declared.measuring.Ranged.{Ranged}
use Rattle.merge_core.specs.Inner.Blocks.{AreBlocks}
use Rattle.merge_core.proofs.Besides.{if_ranged}
use Rattle.merge_core.proofs.measuring.count_all.Goals as goal

positive : (x y m : ℕ) → 0 < x → x ≤ y * m → 0 < y
positive x zero m h k = absurd (omega (arith, h, k))
positive x (suc y) m h k = omega arith

pub returns : goal.returns
returns g c =
    let bytes = g.S.Sources.bytes c.args.sources.now in
    let plan = c.args.plan.now in
    let last = c.args.last in
    let size = c.div_ceil-size.result in
    let threads = c.max.result in
    let end : ℕ → ℕ = λ i. min last (i * size) in
    let some : 0 < threads = omega (arith, c.max.ensures) in
    let sized : 0 < size = positive last size threads c.requires.some (subst (λ (n : ℕ). last ≤ n * threads) (sym c.div_ceil-size.ensures) (div_ceil_times last threads some).0) in
    let many : length c.deref.result.now ≡ last / size + min 1 (last % size) = ap length c.deref.ensures.value ∙ c.in-Ok.ensures.len in
    let covered = (div_ceil_times last size sized).0 in
    let whole : min last ((last / size + min 1 (last % size)) * size) ≡ last = omega (arith, covered) in
    if_ranged bytes plan (end 0) (end (length c.deref.result.now)) 0 last c.sum_up.result (omega arith) (ap (λ (n : ℕ). min last (n * size)) many ∙ whole)
    (c.sum_up.ensures bytes plan end (subst (λ (xs : List (Result Ranged NextFault)). AreBlocks bytes plan end xs) (sym c.deref.ensures.value) c.in-Ok.ensures.each))
