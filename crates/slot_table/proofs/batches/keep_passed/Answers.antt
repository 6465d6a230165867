use Rattle.std.proofs.Common.{◌≡◌, ◌<◌, ◌≤◌, true, length, slice_index, length-set, subst, ◌∙◌, arith}
use Rattle.slot_table.specs.Inner.Batches.{IsPassed, look_at}
use Rattle.slot_table.proofs.Packing.{key_read, few_kept, chosen_packed, before_packed, same_packed, passed_packed}
use Rattle.slot_table.proofs.batches.keep_passed.Goals as goal

pub loop-i-preserved : goal.loop-i-preserved
loop-i-preserved c =
    let i = c.loop-i.i in
    let left = c.loop-i.left in
    let kept = c.loop-i.kept in
    let count = c.args.count in
    let inv = c.loop-i.invariant in
    let b = c.is_passed.result in
    let room : count ≤ length left = omega (arith, inv.long, c.requires.count) in
    let inside = c.loop-i-test.true in
    let high = length c.args.keys.now in
    let place = slice_index left i in
    let within : place < high = (let same = inv.same i (omega arith) inside in let below = c.requires.chosen.within i inside in omega (arith, same, below)) in
    let passed = λ (e : b ≡ true). subst (λ k. IsPassed c.args.slots k (look_at c.args.looks.now place)) (key_read c.args.keys.now place c.index-keys-place.result within c.index-keys-place.is)
    (c.is_passed.ensures e) in
    record {
      long = length-set left kept _ ∙ inv.long;
      few = few_kept left kept i count room inv.few inside b _ passed b;
      chosen = chosen_packed left kept i count room inv.few inside b _ passed high c.args.left.now c.requires.chosen inv.chosen inv.before inv.same;
      passed = passed_packed left kept i count room inv.few inside c.args.slots c.args.keys.now c.args.looks.now b passed inv.passed;
      before = before_packed left kept i count room inv.few inside b _ passed high c.args.left.now c.requires.chosen inv.chosen inv.before inv.same;
      same = same_packed left kept i count room inv.few inside b _ passed high c.args.left.now c.requires.chosen inv.chosen inv.before inv.same;
    }
