use Rattle.std.proofs.Common.{[], ◌++◌, ap, sym, subst, ◌∙◌}
use Rattle.job_core.specs.declared.knowledge.Knowledge.{Knowledge}
use Rattle.harvest_core.specs.Inner.Working.{HasCounted}
use Rattle.harvest_core.proofs.threads.fn.count_beside.one.Goals as goal

pub returns : goal.returns
returns g c =
    let shared = c.captures.shared.now in
    let before = c.begin.result in
    let after = c.work.result in
    let on = c.work.ensures.on in
    let first = c.begin.ensures.endpoint ∙ c.requires in
    record {
      endpoint = on.endpoint ∙ ap (λ (v : Knowledge). (let w : Knowledge = record v { drawn = after.endpoint.drawn; ends_put = after.endpoint.ends_put; ends_drawn = after.endpoint.ends_drawn } in w)) first;
      counted = on.counted [] (subst (λ (v : Knowledge). HasCounted shared ([] ++ v.drawn) before.counted) (sym first) c.begin.ensures.counted);
    }
