use Rattle.std.proofs.Common.{rules, ◌≡◌, ◌∷◌, ◌+◌, List, length, ap, sym, subst, ◌∙◌, arith, IfOk}
use Rattle.std.specs.Vec.Iter.{into_iter_items, into_iter_len}
use Rattle.gather_core.specs.Shares.{Held}
use Rattle.harvest_core.specs.declared.workers.Worker.{Worker}
use Rattle.harvest_core.specs.Inner.Working.{IsShareOfGames}
use Rattle.harvest_core.specs.Inner.Threads.{HasTaken}
use Rattle.harvest_core.proofs.Joined.{taken_none, taken_one}
use Rattle.harvest_core.proofs.threads.take_up.Goals as goal

pub loop-back-init : goal.loop-back-init
loop-back-init c =
    let shared = c.args.shared.now in
    let endpoint = c.args.endpoint.now in
    let many = length c.args.all.items in
    let gives = c.into_iter-back-iterator.ensures.into_iter_gives in
    let longer : length (into_iter_items c.into_iter-back-iterator.result) ≡ many = ap (λ (rs : List Worker). length rs) gives.0 in
    record {
      taken = subst (λ (rs : List Worker). HasTaken shared endpoint many rs endpoint c.new-shares.result.items) (sym gives.0)
          (subst (λ (ws : List Held). HasTaken shared endpoint many c.args.all.items endpoint ws) (sym c.new-shares.ensures.items)
          (taken_none shared endpoint c.args.all.items c.requires.queue c.requires.back));
      long = search rules;
    }

pub loop-back-preserved : goal.loop-back-preserved
loop-back-preserved c =
    let shared = c.args.shared.now in
    let before = c.args.endpoint.now in
    let many = length c.args.all.items in
    let own = c.loop-back.endpoint in
    let shares = c.loop-back.shares.items in
    let one = c.in-Some.back in
    let rest = into_iter_items c.next.new.self in
    let step : (into_iter_items c.loop-back.back-iterator ≡ one ∷ rest) × (into_iter_len c.next.new.self + 1 ≡ into_iter_len c.loop-back.back-iterator) = c.in-Some.ensures.steps in
    let h : HasTaken shared before many (one ∷ rest) own shares = subst (λ (rs : List Worker). HasTaken shared before many rs own shares) step.0 c.loop-back.invariant.taken in
    let share = c.in_ok-counted.field-0 in
    let of : IsShareOfGames shared one.endpoint.drawn share = subst (λ r. IfOk r (IsShareOfGames shared one.endpoint.drawn)) c.in_ok-counted.was h.back.0.counted.0 in
    let longer : length (into_iter_items c.loop-back.back-iterator) ≡ length rest + 1 = ap (λ (rs : List Worker). length rs) step.0 ∙ (omega arith) in
    record {
      taken = subst (λ (ws : List Held). HasTaken shared before many rest c.take_up.new.self ws) (sym c.in_ok-push.ensures.items)
          (taken_one shared before own many one rest shares h share c.take_up.new.self of c.take_up.ensures);
      long = (let a = step.1 in let b = c.loop-back.invariant.long in omega (arith, a, b, longer));
    }
