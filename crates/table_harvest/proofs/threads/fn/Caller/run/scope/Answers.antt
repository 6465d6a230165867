use Rattle.std.proofs.Common.{◌≡◌, ◌+◌, ◌++◌, ℕ, List, [], ◌∷◌, length, ap, sym, subst, ◌∙◌, arith}
use Rattle.std.specs.Prelude.{All}
use Rattle.std.proofs.lemmas.List.{length_push}
use Rattle.std.proofs.lemmas.List.Elements.{All-push}
use Rattle.std.specs.declared.thread.PromisedHandle.{PromisedHandle}
use Rattle.slot_table.specs.Passes.{Known}
use Rattle.job_core.specs.declared.knowledge.Knowledge.{Knowledge}
use Rattle.slot_table.specs.Stakes.{half_of}
use Rattle.table_harvest.specs.declared.threads.BackTo.{BackTo}
use Rattle.table_harvest.specs.declared.workers.Returned.{Returned}
use Rattle.table_harvest.specs.Inner.Threads.{IsCaller, IsFresh, IsHandleOf, stakes_of, promised_of}
use Rattle.table_harvest.proofs.Promised.{stakes_more, promised_more, caller_more, last_of, last_as, last_lost, joinable, handle_of, all_handles}
use Rattle.table_harvest.proofs.threads.fn.Caller.run.scope.Goals as goal
use Rattle.table_harvest.proofs.threads.fn.Caller.run.scope.Goals.{else-loop-test, then-loop-test+then-is_err, then-loop-test+else-is_err+in-Err}

pub loop-preserved : goal.loop-preserved
loop-preserved g c =
    let first = c.captures.caller in
    let table = first.own.table.now in
    let queue = first.own.endpoint.queue in
    let bytes = first.games.bytes in
    let kinds = first.own.kinds in
    let h = c.loop.invariant in
    let before = c.loop.caller in
    let after = c.another-worker.new.self in
    let another = c.another-worker.ensures in
    let handle = c.in-Ok.handle in
    let promise = c.in-Ok.ensures.ok in
    let old = c.loop.handles.items in
    let items : c.push_reserved.new.self.items ≡ old ++ handle ∷ [] = c.push_reserved.ensures.items ∙ ap (λ (hs : List (PromisedHandle (Returned g.row.O.Denot) (BackTo g.row.O.Denot))). hs ++ handle ∷ []) c.reserve.ensures.items in
    let given : handle.promise.pass.value.stake ≡ half_of before.own.pass.stake =
    ap (λ p. p.pass.value.stake) promise ∙ ap (λ p. p.stake) c.back_to-promise.ensures.pass ∙ another.stake in
    let stakes : stakes_of c.push_reserved.new.self.items ≡ stakes_of old ++ half_of before.own.pass.stake =
    ap stakes_of items ∙ stakes_more old handle ∙ ap (λ (s : List ℕ). stakes_of old ++ s) given in
    let P = IsHandleOf table queue bytes kinds in
    record {
      caller = subst (λ (s : List ℕ). IsCaller table queue bytes kinds s (c.loop.started + 1) after) (sym stakes)
          (caller_more table queue bytes kinds (stakes_of old) c.loop.started before after h.caller another.same another.still
          (let few = h.few in let parts = h.caller.parts in let test = c.loop-test.true in let most = c.requires.workers.1 in omega (arith, few, parts, test, most))
          (c.splits_lose_no_stake.ensures before.own.pass.stake (stakes_of old) before.begun.value.stake h.caller.stake));
      begun = ap (λ w. w.begun) another.same ∙ h.begun;
      workers = ap (λ w. w.own.workers) another.same ∙ h.workers;
      few = (let few = h.few in omega arith);
      each = ap (λ (hs : List (PromisedHandle (Returned g.row.O.Denot) (BackTo g.row.O.Denot))). length hs) items ∙ length_push old handle ∙ ap (λ n. n + 1) h.each;
      numbers = ap promised_of items ∙ promised_more old handle c.loop.started h.numbers (ap (λ p. p.number) promise ∙ c.back_to-promise.ensures.number ∙ another.number);
      handles = subst (All P) (sym items) (All-push P old handle h.handles
          (handle_of table queue bytes kinds (stakes_of old) c.loop.started before handle h.caller
          (ap (λ p. p.table.now) promise ∙ c.back_to-promise.ensures.table ∙ another.table) (ap (λ p. p.kinds) promise ∙ c.back_to-promise.ensures.kinds ∙ another.kinds)
          (subst (λ (d : Knowledge). IsFresh before.own.table.now before.own.endpoint.queue before.own.endpoint.bytes d handle.promise.pass.value) (sym (ap (λ p. p.endpoint.value) promise ∙ c.back_to-promise.ensures.endpoint))
          (subst (λ (p : Known _). IsFresh before.own.table.now before.own.endpoint.queue before.own.endpoint.bytes c.another-worker.result.endpoint p) (sym (ap (λ p. p.pass.value) promise ∙ c.back_to-promise.ensures.pass)) another.theirs))));
    }

pub joined-requires-clause-reading : goal.joined-requires-clause-reading
joined-requires-clause-reading g c = λ κs lives.
    let first = c.captures.caller in
    let table = first.own.table.now in
    let queue = first.own.endpoint.queue in
    let bytes = first.games.bytes in
    let kinds = first.own.kinds in
    let h = c.loop.invariant in
    let handles = c.loop-test.handles in
    let reading = c.finish-reading.result in
    let read = c.finish-reading.ensures in
    elim c.loop-test.branch [
      | else-loop-test w ↦
          let items : handles.items ≡ c.loop.handles.items = ap (λ hs. hs.items) w.handles-is in
          joinable table queue bytes kinds (stakes_of handles.items) c.loop.started (length handles.items) c.loop-test.caller reading
          (last_as table queue bytes kinds c.loop.started (ap stakes_of items) w.caller-is (last_of table queue bytes kinds (stakes_of c.loop.handles.items) c.loop.started c.loop.caller h.caller))
          (ap (λ (hs : List (PromisedHandle (Returned g.row.O.Denot) (BackTo g.row.O.Denot))). length hs) items ∙ h.each) read.reading read.asked
      | then-loop-test+then-is_err w ↦
          let items : handles.items ≡ c.loop.handles.items = ap (λ hs. hs.items) w.handles-is ∙ w.reserve.ensures.items in
          joinable table queue bytes kinds (stakes_of handles.items) c.loop.started (length handles.items) c.loop-test.caller reading
          (last_as table queue bytes kinds c.loop.started (ap stakes_of items) w.caller-is (last_of table queue bytes kinds (stakes_of c.loop.handles.items) c.loop.started c.loop.caller h.caller))
          (ap (λ (hs : List (PromisedHandle (Returned g.row.O.Denot) (BackTo g.row.O.Denot))). length hs) items ∙ h.each) read.reading read.asked
      | then-loop-test+else-is_err+in-Err w ↦
          let items : handles.items ≡ c.loop.handles.items = ap (λ hs. hs.items) w.handles-is ∙ w.reserve.ensures.items in
          joinable table queue bytes kinds (stakes_of handles.items) c.loop.started (length handles.items) c.loop-test.caller reading
          (last_as table queue bytes kinds c.loop.started (ap stakes_of items) w.caller-is
          (last_lost table queue bytes kinds (stakes_of c.loop.handles.items) c.loop.started c.loop.caller w.another-worker.new.self h.caller w.another-worker.ensures.same w.another-worker.ensures.still
          (let few = h.few in let test = w.loop-test.true in let all = h.workers in omega (arith, few, test, all))))
          (ap (λ (hs : List (PromisedHandle (Returned g.row.O.Denot) (BackTo g.row.O.Denot))). length hs) items ∙ h.each) read.reading read.asked
    ]

pub joined-requires-clause-handles : goal.joined-requires-clause-handles
joined-requires-clause-handles g c = λ κs lives.
    let first = c.captures.caller in
    let table = first.own.table.now in
    let queue = first.own.endpoint.queue in
    let bytes = first.games.bytes in
    let kinds = first.own.kinds in
    let P = IsHandleOf table queue bytes kinds in
    let h = c.loop.invariant in
    let handles = c.loop-test.handles in
    let reading = c.finish-reading.result in
    let read = c.finish-reading.ensures in
    elim c.loop-test.branch [
      | else-loop-test w ↦
          let items : handles.items ≡ c.loop.handles.items = ap (λ hs. hs.items) w.handles-is in
          all_handles table queue bytes kinds (stakes_of handles.items) c.loop.started c.loop-test.caller reading handles.items
          (last_as table queue bytes kinds c.loop.started (ap stakes_of items) w.caller-is (last_of table queue bytes kinds (stakes_of c.loop.handles.items) c.loop.started c.loop.caller h.caller))
          read.reading (subst (All P) (sym items) h.handles)
      | then-loop-test+then-is_err w ↦
          let items : handles.items ≡ c.loop.handles.items = ap (λ hs. hs.items) w.handles-is ∙ w.reserve.ensures.items in
          all_handles table queue bytes kinds (stakes_of handles.items) c.loop.started c.loop-test.caller reading handles.items
          (last_as table queue bytes kinds c.loop.started (ap stakes_of items) w.caller-is (last_of table queue bytes kinds (stakes_of c.loop.handles.items) c.loop.started c.loop.caller h.caller))
          read.reading (subst (All P) (sym items) h.handles)
      | then-loop-test+else-is_err+in-Err w ↦
          let items : handles.items ≡ c.loop.handles.items = ap (λ hs. hs.items) w.handles-is ∙ w.reserve.ensures.items in
          all_handles table queue bytes kinds (stakes_of handles.items) c.loop.started c.loop-test.caller reading handles.items
          (last_as table queue bytes kinds c.loop.started (ap stakes_of items) w.caller-is
          (last_lost table queue bytes kinds (stakes_of c.loop.handles.items) c.loop.started c.loop.caller w.another-worker.new.self h.caller w.another-worker.ensures.same w.another-worker.ensures.still
          (let few = h.few in let test = w.loop-test.true in let all = h.workers in omega (arith, few, test, all))))
          read.reading (subst (All P) (sym items) h.handles)
    ]
