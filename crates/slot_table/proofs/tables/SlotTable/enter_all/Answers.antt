use Rattle.std.proofs.Common.{◌≡◌, ◌+◌, ◌-◌, ◌++◌, ◌∙◌, take, drop, length, length-take, length-drop, min, rules, subst, sym, ap, arith}
use Rattle.std.proofs.lemmas.Slice.{take-put_mid}
use Rattle.std.proofs.Math.Seq.{take-add}
use borrow.Rule.Slice.PartMut.{put_mid}
use Rattle.slot_table.specs.Batches.{AreMade, AreTold, IsFullBefore, AreEnteredUntil, entered}
use Rattle.slot_table.proofs.Batching.{made_none, entered_through, told_through, until_through, full_right, entered_until, told_kept, until_kept}
use Rattle.slot_table.proofs.tables.SlotTable.enter_all.Goals as goal
use Rattle.slot_table.proofs.tables.SlotTable.enter_all.Goals.{then-loop-start-test+else-not-full, else-loop-start-test}

pub loop-start-init : goal.loop-start-init
loop-start-init g c =
    let n = c.args.self.now.slots in
    record {
      pass = c.requires.pass;
      within = omega arith;
      long = sym c.requires.length;
      made = made_none n c.args.pass.now;
      alone = λ h. absurd (omega (arith, h));
      told = λ i h. absurd (omega (arith, h));
      until = λ i h. absurd (omega (arith, h));
      full = λ is. absurd cc;
    }

pub loop-start-preserved : goal.loop-start-preserved
loop-start-preserved g c =
    let n = c.args.self.now.slots in
    let keys = c.args.keys.now in
    let answers = c.loop-start.answers in
    let start = c.loop-start.start in
    let more = c.min.result in
    let size = start + more - start in
    let block = take size (drop start keys) in
    let others = c.enter_block-full.new.answers in
    let old = c.loop-start.pass in
    let new = c.enter_block-full.new.pass in
    let inv = c.loop-start.invariant in
    let after = c.enter_block-full.ensures in
    let same : size ≡ more = omega arith in
    let few = c.min.ensures in
    let part : length block ≡ min size (length (drop start keys)) = length-take size (drop start keys) in
    let rest : length (drop start keys) ≡ length keys - start = length-drop start keys in
    let count : length others ≡ more = omega (arith, after.length, part, rest, few, same) in
    let keys_are : take (start + more) keys ≡ take start keys ++ block = take-add start more keys ∙ ap (λ k. take start keys ++ take k (drop start keys)) (sym same) in
    let answers_are = take-put_mid start size answers others (start + more) (omega (arith, count)) (omega (arith, inv.within, inv.long)) in
    let level : length (take start keys) ≡ length (take start answers) = omega (arith, length-take start keys, length-take start answers, inv.long) in
    let later = after.made.later in
    let taken : length (take start answers) ≡ start = omega (arith, length-take start answers, inv.within, inv.long) in
    let reach : length (take start answers) + length block ≡ start + more = omega (arith, taken, part, rest, few, same) in
    let held = put_mid start size answers others in
    record {
      pass = after.pass;
      within = omega (arith, few, inv.within);
      long = search rules;
      made = subst (λ ks. AreMade n (entered ks (take (start + more) held)) c.args.pass.now new) (sym keys_are)
          (subst (λ found. AreMade n (entered (take start keys ++ block) found) c.args.pass.now new) (sym answers_are)
          (entered_through n (take start keys) block (take start answers) others c.args.pass.now old new level inv.made after.made));
      alone = λ _. after.alone (omega (arith, part, rest, few, same, c.loop-start-test.true));
      told = subst (λ ks. AreTold n new.seen ks (take (start + more) held)) (sym keys_are)
          (subst (λ found. AreTold n new.seen (take start keys ++ block) found) (sym answers_are)
          (told_through n old.seen new.seen (take start keys) block (take start answers) others level after.pass.legal later.begins inv.told after.told));
      until = subst (λ found. AreEnteredUntil found (start + more)) (sym answers_are)
          (subst (AreEnteredUntil (take start answers ++ others)) reach
          (until_through (take start answers) others (length block) (subst (AreEnteredUntil (take start answers)) (sym taken) inv.until) after.until));
      full = λ is. subst (λ found. IsFullBefore found (start + more)) (sym answers_are)
          (subst (IsFullBefore (take start answers ++ others)) reach (full_right (take start answers) others (length block) (after.full is)));
    }

pub returns-clause-made : goal.returns-clause-made
returns-clause-made g c =
    let inv = c.loop-start.invariant in
    let keys = c.args.keys.now in
    let answers = c.loop-start.answers in
    let left = c.leave_from.ensures in
    subst (λ calls. AreMade c.args.self.now.slots calls c.args.pass.now c.loop-start.pass)
    (entered_until keys answers c.leave_from.new.answers c.loop-start.start (sym inv.long) left.length left.before left.left) inv.made

pub returns-clause-told : goal.returns-clause-told
returns-clause-told g c =
    let left = c.leave_from.ensures in
    told_kept c.args.self.now.slots c.loop-start.pass.seen c.args.keys.now c.loop-start.answers c.leave_from.new.answers c.loop-start.start
    left.before left.left c.loop-start.invariant.told

pub returns-clause-until : goal.returns-clause-until
returns-clause-until g c =
    let inv = c.loop-start.invariant in
    until_kept c.loop-start.answers c.leave_from.new.answers c.loop-start.start (length c.args.keys.now) c.leave_from.ensures.before inv.until (λ low.
    elim c.loop-start-test.branch [
      | then-loop-start-test+else-not-full w ↦ inv.full w.if-not-full.false
      | else-loop-start-test w ↦ absurd (omega (arith, low, w.loop-start-test.false))
    ])
