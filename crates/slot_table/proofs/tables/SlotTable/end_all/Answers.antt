use Rattle.std.proofs.Common.{◌+◌, ◌++◌, ◌<◌, ◌∙◌, take, drop, length, length-set, slice_index, slice_set, subst, sym, arith}
use Rattle.slot_table.specs.Passes.{IsLater}
use Rattle.slot_table.specs.Batches.{AreMade, IsTold, entered}
use Rattle.slot_table.specs.Inner.Batches.{look_at, followed, ended, rest_of, IsAnswerOf}
use Rattle.slot_table.proofs.Packing.{key_read}
use Rattle.slot_table.proofs.Batching.{made_more, next_end, told_more, until_more, full_more, full_later, full_here, looks_stay, all_ended}
use Rattle.slot_table.proofs.tables.SlotTable.end_all.Goals as goal
use Rattle.slot_table.proofs.tables.SlotTable.end_all.Goals.{then-full, else-full}

pub loop-i-preserved : goal.loop-i-preserved
loop-i-preserved g c =
    let n = c.args.self.now.slots in
    let place = g.O.ProbeOrder.place_of c.args.self.now.order in
    let keys = c.args.keys.now in
    let looks = c.args.looks.now in
    let answers = c.loop-i.answers in
    let i = c.loop-i.i in
    let look = look_at looks i in
    let answer = c.go_on-answer.result in
    let old = c.loop-i.pass in
    let new = c.go_on-answer.new.pass in
    let inv = c.loop-i.invariant in
    let inside : i < length keys = omega arith in
    let room : i < length answers = omega (arith, inside, inv.long) in
    let read = key_read keys i c.index-keys-i.result inside c.index-keys-i.is in
    let later = subst (λ k. IsLater n old (rest_of k (followed n place k look) answer) new) read c.go_on-answer.ensures.later in
    let same = subst (λ k. IsAnswerOf (followed n place k look) answer) read c.go_on-answer.ensures.answer in
    let told = subst (λ k. IsTold n new.seen k answer) read c.go_on-answer.ensures.told in
    record {
      pass = c.go_on-answer.ensures.pass;
      long = length-set answers i answer ∙ inv.long;
      made = λ first made. made_more n (entered (take i keys) answers ++ ended n place (drop i keys) (drop i looks)) (rest_of (slice_index keys i) (followed n place (slice_index keys i) look) answer)
          (entered (take (i + 1) keys) (slice_set answers i answer) ++ ended n place (drop (i + 1) keys) (drop (i + 1) looks)) first old new (inv.made first made) later
          (next_end n place keys looks answers i answer inside c.requires.long (sym inv.long) old.seen (inv.looked i inside) same);
      alone = λ was. later.alone (inv.alone was);
      looked = looks_stay n place old.seen new.seen keys looks (length keys) c.go_on-answer.ensures.pass.legal later.begins inv.looked;
      told = told_more n old.seen new.seen keys answers i answer room c.go_on-answer.ensures.pass.legal later.begins inv.told told;
      until = until_more answers i answer room inv.until (λ absent. inv.full (c.go_on-answer.ensures.left absent));
      full = λ is. elim c.if-full.branch [
        | then-full w ↦ full_later (slice_set answers i answer) i (i + 1) (omega arith)
            (full_more answers i i answer (omega arith) (inv.full w.if-full.true))
        | else-full w ↦ full_here answers i answer room (w.is_full-full.ensures (sym w.full-is ∙ is))
      ];
    }

pub returns-clause-made : goal.returns-clause-made
returns-clause-made g c = λ first made.
    let n = c.args.self.now.slots in
    let place = g.O.ProbeOrder.place_of c.args.self.now.order in
    subst (λ calls. AreMade n calls first c.loop-i.pass)
    (all_ended n place c.args.keys.now c.args.looks.now c.loop-i.answers c.loop-i.i (omega arith)) (c.loop-i.invariant.made first made)
