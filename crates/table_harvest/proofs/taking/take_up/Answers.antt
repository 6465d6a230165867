use Rattle.std.proofs.Common.{◌≡◌, ◌+◌, List, ◌∷◌, length, refl, ap, sym, subst, ◌∙◌, arith}
use Rattle.std.specs.Vec.Iter.{into_iter_items, into_iter_len}
use Rattle.table_harvest.specs.declared.workers.Returned.{Returned}
use Rattle.table_harvest.specs.declared.workers.Worker.{Worker}
use Rattle.table_harvest.specs.declared.working.Worked.{Worked}
use Rattle.table_harvest.specs.Inner.Threads.{HasTaken}
use Rattle.table_harvest.proofs.Taken.{taken_one}
use Rattle.table_harvest.proofs.taking.take_up.Goals as goal

pub loop-back-preserved : goal.loop-back-preserved
loop-back-preserved g c =
    let before = c.args.own.now in
    let all = c.args.all.items in
    let own = c.loop-back.own in
    let worked = c.loop-back.worked.items in
    let one = c.in-Some.back in
    let rest = into_iter_items c.next.new.self in
    let step : (into_iter_items c.loop-back.back-iterator ≡ one ∷ rest) × (into_iter_len c.next.new.self + 1 ≡ into_iter_len c.loop-back.back-iterator) = c.in-Some.ensures.steps in
    let h : HasTaken before all (one ∷ rest) own worked =
    subst (λ (rs : List (Returned g.row.O.Denot)). HasTaken before all rs own worked) step.0 c.loop-back.invariant.taken in
    let after : Worker g.row.O.Denot g.row.G.Denot = record own { endpoint = c.take_up.new.self; pass = c.absorb.new.pass } in
    let longer : length (into_iter_items c.loop-back.back-iterator) ≡ length rest + 1 = ap (λ (rs : List (Returned g.row.O.Denot)). length rs) step.0 ∙ (omega arith) in
    record {
      taken = subst (λ (ws : List Worked). HasTaken before all rest after ws) (sym c.in_ok-push.ensures.items)
          (taken_one before own after all rest one worked h refl c.take_up.ensures c.absorb.ensures.pass c.absorb.ensures.met);
      long = (let a = step.1 in let b = c.loop-back.invariant.long in omega (arith, a, b, longer));
    }
