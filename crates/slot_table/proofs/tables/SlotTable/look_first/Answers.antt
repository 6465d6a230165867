use Rattle.std.proofs.Common.{◌+◌, ◌<◌, ◌≤◌, ◌∙◌, length, length-set, take, slice_index, slice_set, subst, refl, arith}
use Rattle.probe_core.specs.declared.calls.Call.TheVariants as call
use Rattle.slot_table.specs.Passes.{IsLater}
use Rattle.slot_table.specs.Telling.{entries_of}
use Rattle.slot_table.specs.Inner.Batches.{IsLooked, followed, ended}
use Rattle.slot_table.proofs.Packing.{key_read}
use Rattle.slot_table.proofs.Batching.{made_none, made_more, ended_next, looks_set, looked_stays}
use Rattle.slot_table.proofs.tables.SlotTable.look_first.Goals as goal

pub loop-i-init : goal.loop-i-init
loop-i-init g c =
    let n = c.args.self.now.slots in
    record {
      pass = c.requires.pass;
      long = refl;
      made = made_none n c.args.pass.now;
      alone = λ h. absurd (omega (arith, h));
      looked = λ i h. absurd (omega (arith, h));
    }

pub loop-i-preserved : goal.loop-i-preserved
loop-i-preserved g c =
    let n = c.args.self.now.slots in
    let place = g.O.ProbeOrder.place_of c.args.self.now.order in
    let keys = c.args.keys.now in
    let looks = c.loop-i.looks in
    let i = c.loop-i.i in
    let look = c.look.result in
    let old = c.loop-i.pass in
    let new = c.look.new.pass in
    let inv = c.loop-i.invariant in
    let inside : i < length keys = omega arith in
    let long : length keys ≤ length looks = omega (arith, inv.long, c.requires.long) in
    let read = key_read keys i c.index-keys-i.result inside c.index-keys-i.is in
    let later = subst (λ k. IsLater n old (entries_of (call.Enter k) (followed n place k look)) new) read c.look.ensures.later in
    let looked = subst (λ k. IsLooked n place new.seen k look) read c.look.ensures.looked in
    record {
      pass = c.look.ensures.pass;
      long = length-set looks i look ∙ inv.long;
      made = made_more n (ended n place (take i keys) looks) (entries_of (call.Enter (slice_index keys i)) (followed n place (slice_index keys i) look))
          (ended n place (take (i + 1) keys) (slice_set looks i look)) c.args.pass.now old new inv.made later (ended_next n place keys looks i look inside long);
      alone = λ _. c.look.ensures.alone;
      looked = looks_set n place new.seen keys looks i look (i + 1) (omega (arith, inside, long)) looked (λ k h apart.
          looked_stays n place old.seen new.seen (slice_index keys k) _ c.look.ensures.pass.legal later.begins (inv.looked k (omega (arith, h, apart))));
    }
