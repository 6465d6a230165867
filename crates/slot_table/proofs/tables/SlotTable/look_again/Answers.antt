use Rattle.std.proofs.Common.{◌+◌, ◌<◌, ◌≤◌, ◌∙◌, length, length-set, slice_index, slice_set, subst, sym, arith}
use Rattle.probe_core.specs.declared.calls.Call.TheVariants as call
use Rattle.slot_table.specs.History.{content_of}
use Rattle.slot_table.specs.Passes.{IsLater}
use Rattle.slot_table.specs.Telling.{entries_of, PassedOthers}
use Rattle.slot_table.specs.Inner.Batches.{IsLooked, look_at, followed, ended}
use Rattle.slot_table.proofs.Packing.{key_read}
use Rattle.slot_table.proofs.Batching.{made_more, ended_again, looks_set, looked_stays, next_search, passed_rest}
use Rattle.slot_table.proofs.tables.SlotTable.look_again.Goals as goal

pub overflow_add-looks : goal.overflow_add-looks
overflow_add-looks g c =
    let passed = c.loop-i.invariant.passed c.loop-i.i (omega arith) (omega arith) in omega (arith, passed.fits)

pub look-requires-clause-index : goal.look-requires-clause-index
look-requires-clause-index g c =
    let passed = c.loop-i.invariant.passed c.loop-i.i (omega arith) (omega arith) in passed.more

pub look-requires-clause-passed : goal.look-requires-clause-passed
look-requires-clause-passed g c =
    let n = c.args.self.now.slots in
    let place = g.O.ProbeOrder.place_of c.args.self.now.order in
    let keys = c.args.keys.now in
    let i = c.loop-i.i in
    let at = slice_index c.args.left.now i in
    let look = look_at c.loop-i.looks at in
    let old = c.loop-i.pass in
    let within = c.requires.chosen.within i c.loop-i-test.true in
    let passed = c.loop-i.invariant.passed i (omega arith) c.loop-i-test.true in
    let search = next_search n place old.seen (slice_index keys at) look passed (c.loop-i.invariant.looked at within) in
    subst (λ k. PassedOthers (place k) (content_of n old.seen) k (look.index + 1)) (sym (key_read keys at c.index-keys-place.result within c.index-keys-place.is)) search.passed

pub loop-i-preserved : goal.loop-i-preserved
loop-i-preserved g c =
    let n = c.args.self.now.slots in
    let place = g.O.ProbeOrder.place_of c.args.self.now.order in
    let keys = c.args.keys.now in
    let looks = c.loop-i.looks in
    let left = c.args.left.now in
    let i = c.loop-i.i in
    let at = slice_index left i in
    let look = c.look.result in
    let old = c.loop-i.pass in
    let new = c.look.new.pass in
    let inv = c.loop-i.invariant in
    let inside = c.loop-i-test.true in
    let within : at < length keys = c.requires.chosen.within i inside in
    let long : length keys ≤ length looks = omega (arith, inv.long, c.requires.long) in
    let read = key_read keys at c.index-keys-place.result within c.index-keys-place.is in
    let later = subst (λ k. IsLater n old (entries_of (call.Enter k) (followed n place k look)) new) read c.look.ensures.later in
    let looked = subst (λ k. IsLooked n place new.seen k look) read c.look.ensures.looked in
    let passed = inv.passed i (omega arith) inside in
    record {
      pass = c.look.ensures.pass;
      long = length-set looks at look ∙ inv.long;
      made = λ first made. made_more n (ended n place keys looks) (entries_of (call.Enter (slice_index keys at)) (followed n place (slice_index keys at) look))
          (ended n place keys (slice_set looks at look)) first old new (inv.made first made) later (ended_again n place keys looks at look within long passed);
      alone = λ _. c.look.ensures.alone;
      looked = looks_set n place new.seen keys looks at look (length keys) (omega (arith, within, long)) looked (λ k h apart.
          looked_stays n place old.seen new.seen (slice_index keys k) _ c.look.ensures.pass.legal later.begins (inv.looked k h));
      passed = passed_rest n keys looks left i c.args.count look c.requires.chosen inv.passed inside;
    }
