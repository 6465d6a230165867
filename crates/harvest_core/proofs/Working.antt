-- A thread that draws on and counts what it has drawn.
use Rattle.std.proofs.Common.{◌≡◌, [], ◌∷◌, ◌++◌, refl, ap, sym, subst, ◌∙◌, append_assoc}
use Rattle.game_core.specs.Games.{WrittenGame}
use Rattle.job_core.specs.declared.knowledge.Knowledge.{Knowledge}
use Rattle.job_core.specs.declared.items.Item.TheVariants.{Job, End}
use Rattle.job_core.specs.Rule.{drawing, putting}
use Rattle.harvest_core.specs.declared.workers.Shared.{Shared}
use Rattle.harvest_core.specs.declared.workers.Worker.{Worker}
use Rattle.harvest_core.specs.Inner.Working.{HasCounted, IsAtWork, GoesOn}
use Rattle.harvest_core.specs.Inner.Dealt.{CountsGame}

-- an endpoint that has drawn and put ends, and nothing else of it has changed
abbrev pub HasDrawn : Knowledge → Knowledge → Type 0
HasDrawn before after = after ≡ record before { drawn = after.drawn; ends_put = after.ends_put; ends_drawn = after.ends_drawn }

drawn_on : (first before after : Knowledge) → HasDrawn first before → HasDrawn before after → HasDrawn first after
drawn_on first before after so_far step =
    step ∙ ap (λ (v : Knowledge). (let w : Knowledge = record v { drawn = after.drawn; ends_put = after.ends_put; ends_drawn = after.ends_drawn } in w)) so_far

module _ (shared : Shared) where
  -- nothing was done
  pub goes_self : (worker : Worker) → GoesOn shared worker worker
  goes_self worker = record { endpoint = refl; counted = λ back h. h }

  -- one step after another
  pub goes_through : (first before after : Worker) → GoesOn shared first before → GoesOn shared before after → GoesOn shared first after
  goes_through first before after so_far step = record {
    endpoint = drawn_on first.endpoint before.endpoint after.endpoint so_far.endpoint step.endpoint;
    counted = λ back h. step.counted back (so_far.counted back h);
  }

  -- what was counted is still what was drawn
  pub still_at_work : (before after : Worker) → GoesOn shared before after → IsAtWork shared before → IsAtWork shared after
  still_at_work before after step h = record {
    bytes_are = ap (λ (v : Knowledge). v.bytes) step.endpoint ∙ h.bytes_are;
    back = h.back;
    counted = step.counted h.back h.counted;
  }

  -- a job was drawn, and its game counted
  pub goes_job : (job : WrittenGame) (before mid after : Worker) → mid.endpoint ≡ drawing before.endpoint (Job job) → mid.counted ≡ before.counted → after.endpoint ≡ mid.endpoint →
      CountsGame shared job.game mid after → GoesOn shared before after
  goes_job job before mid after draws still same counts =
      let drawn : after.endpoint ≡ drawing before.endpoint (Job job) = same ∙ draws in
      record {
        endpoint = drawn ∙ ap (λ (d : Knowledge). (let v : Knowledge = record before.endpoint { drawn = d.drawn; ends_put = d.ends_put; ends_drawn = d.ends_drawn } in v)) (sym drawn);
        counted = λ back h.
            let list : (back ++ before.endpoint.drawn) ++ job.game ∷ [] ≡ back ++ after.endpoint.drawn =
            append_assoc back before.endpoint.drawn (job.game ∷ []) ∙ ap (λ (d : Knowledge). back ++ d.drawn) (sym drawn) in
            subst (λ games. HasCounted shared games after.counted) list (counts (back ++ before.endpoint.drawn) (subst (HasCounted shared (back ++ before.endpoint.drawn)) (sym still) h));
      }

  -- an end was drawn
  pub goes_end : (before after : Worker) → after.endpoint ≡ drawing before.endpoint End → after.counted ≡ before.counted → GoesOn shared before after
  goes_end before after drawn still = record {
    endpoint = drawn ∙ ap (λ (d : Knowledge). (let v : Knowledge = record before.endpoint { drawn = d.drawn; ends_put = d.ends_put; ends_drawn = d.ends_drawn } in v)) (sym drawn);
    counted = λ back h. subst (λ (d : Knowledge). HasCounted shared (back ++ d.drawn) after.counted) (sym drawn) (subst (HasCounted shared (back ++ before.endpoint.drawn)) (sym still) h);
  }

  -- an end was put
  pub goes_put : (before after : Worker) → after.endpoint ≡ putting before.endpoint End → after.counted ≡ before.counted → GoesOn shared before after
  goes_put before after put still = record {
    endpoint = put ∙ ap (λ (d : Knowledge). (let v : Knowledge = record before.endpoint { drawn = d.drawn; ends_put = d.ends_put; ends_drawn = d.ends_drawn } in v)) (sym put);
    counted = λ back h. subst (λ (d : Knowledge). HasCounted shared (back ++ d.drawn) after.counted) (sym put) (subst (HasCounted shared (back ++ before.endpoint.drawn)) (sym still) h);
  }
