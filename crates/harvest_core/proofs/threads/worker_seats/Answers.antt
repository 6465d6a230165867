use Rattle.std.proofs.Common.{◌≡◌, ◌-◌, [], List, All, length, ap, sym, subst, ◌∙◌, arith}
use Rattle.std.proofs.lemmas.List.{length_push}
use Rattle.std.proofs.lemmas.List.Elements.{All-push}
use Rattle.job_core.specs.declared.knowledge.Knowledge.{Knowledge}
use Rattle.job_core.specs.Rule.{worker}
use Rattle.harvest_core.specs.declared.threads.Seat.{Seat}
use Rattle.harvest_core.specs.Inner.Threads.{reader_of, IsFresh}
use Rattle.harvest_core.proofs.threads.worker_seats.Goals as goal

pub loop-number-preserved : goal.loop-number-preserved
loop-number-preserved c =
    let shared = c.args.shared.now in
    let h = c.loop-number.invariant in
    let old = c.loop-number.endpoint in
    let new = c.another-endpoint.new.self in
    let one : Seat = record { number = c.loop-number.number; endpoint = c.another-endpoint.result } in
    let items = c.in_ok-push.ensures.items in
    let parts : new.parts ≡ old.parts - 1 = ap (λ (v : Knowledge). v.parts) c.another-endpoint.ensures.lent in
    let longer = ap (λ (ws : List Seat). length ws) items ∙ length_push c.loop-number.seats.items one in
    let fresh : IsFresh shared one = c.another-endpoint.ensures.theirs ∙ ap (λ (v : Knowledge). worker v.queue v.bytes []) h.endpoint in
    record {
      endpoint = c.another-endpoint.ensures.lent ∙ ap (λ (v : Knowledge). (let w : Knowledge = record v { parts = old.parts - 1 } in w)) h.endpoint ∙ ap (reader_of shared) (sym parts);
      parts = (let p = h.parts in let f = h.few in let b = c.loop-number.auto in let t = c.loop-number-test in omega (arith, p, f, parts, longer));
      few = (let f = h.few in omega (arith, f, longer));
      fresh = subst (All (IsFresh shared)) (sym items) (All-push (IsFresh shared) c.loop-number.seats.items one h.fresh fresh);
    }
