use Rattle.std.proofs.Common.{◌≡◌, ◌+◌, arith, subst, ℕ, length}
use Rattle.merge_core.specs.Inner.Ranges.{IsRanged}
use Rattle.merge_core.proofs.Besides.{ranged_both, ranged_copy, block_at}
use Rattle.merge_core.proofs.measuring.sum_up.Goals as goal

pub loop-place-init : goal.loop-place-init
loop-place-init c = λ bytes plan end h.
    ranged_copy bytes plan (end 0) (end 1) c.in-Ok.first c.in-Ok-copied.first (block_at bytes plan end c.args.blocks.now 0 c.index-blocks-0.result c.in-Ok.first h (omega arith) c.index-blocks-0.is c.in-Ok.is)
    c.in-Ok-copied.ensures.joined c.in-Ok-copied.ensures.each

pub loop-place-preserved : goal.loop-place-preserved
loop-place-preserved c = λ bytes plan end h.
    let n = c.loop-place.place in
    ranged_both bytes plan (end 0) (end n) (end (n + 1)) c.loop-place.total c.in-Ok-blocks.next c.in-Ok-both_ranged.both (c.loop-place.invariant bytes plan end h)
    (block_at bytes plan end c.args.blocks.now n c.index-blocks-place.result c.in-Ok-blocks.next h (omega arith) c.index-blocks-place.is c.in-Ok-blocks.is)
    c.in-Ok-both_ranged.ensures.joined c.in-Ok-both_ranged.ensures.each

pub returns : goal.returns
returns c = λ bytes plan end h.
    let last : c.loop-place.place ≡ length c.args.blocks.now = omega arith in
    subst (λ (n : ℕ). IsRanged bytes plan (end 0) (end n) c.loop-place.total) last (c.loop-place.invariant bytes plan end h)
