-- Games that are dealt out, one after another, and what the thread that deals them hands back.
use Rattle.std.proofs.Common.{◌≡◌, ℕ, ◌+◌, ◌==◌, ◌⊎◌, nat_lt, cond, true, false, List, [], ◌∷◌, ◌++◌, refl, ap, sym, subst, ◌∙◌, arith, append-nil, inl, inr, ⊎_elim}
use Rattle.std.proofs.lemmas.Bool.Decides.{nat_tests}
use Rattle.std.proofs.lemmas.List.Sums.{sum_by_push}
use Rattle.game_core.specs.Games.{WrittenGame}
use Rattle.job_core.specs.declared.knowledge.Knowledge.{Knowledge}
use Rattle.job_core.specs.declared.items.Item.TheVariants.{Job}
use Rattle.job_core.specs.Rule.{putting}
use Rattle.job_core.proofs.Sums.{times_append}
use Rattle.gather_core.specs.Covering.{times_of}
use Rattle.harvest_core.specs.declared.workers.Shared.{Shared}
use Rattle.harvest_core.specs.declared.workers.Worker.{Worker}
use Rattle.harvest_core.specs.Inner.Working.{HasCounted, IsAtWork, GoesOn}
use Rattle.harvest_core.specs.Inner.Dealt.{IsOnceEach, CountsGame, IsOffered, IsDealt}

times_push : (some : List ℕ) (last game : ℕ) → times_of (some ++ last ∷ []) game ≡ times_of some game + cond (last == game) 1 0
times_push some last game = sum_by_push (λ (one : ℕ). cond (one == game) 1 0) some last

-- one number more is below the next
number_below : (high game : ℕ) → cond (nat_lt game high) 1 0 + cond (high == game) 1 0 ≡ cond (nat_lt game (high + 1)) 1 0
number_below high game =
    elim (high == game) as (λ b. (high == game) ≡ b → cond (nat_lt game high) 1 0 + cond b 1 0 ≡ cond (nat_lt game (high + 1)) 1 0) [
      | true ↦ λ test.
          let same : high ≡ game = Prim.grind (arith, nat_tests) in
          let no : nat_lt game high ≡ false = Prim.grind (arith, nat_tests) in
          let yes : nat_lt game (high + 1) ≡ true = Prim.grind (arith, nat_tests) in
          ap (λ b. cond b 1 0 + 1) no ∙ sym (ap (λ b. cond b 1 0) yes)
      | false ↦ λ test.
          let other : (high ≡ game) → ⊥ = λ e. Prim.grind (arith, nat_tests) in
          let same : nat_lt game (high + 1) ≡ nat_lt game high = Prim.grind (arith, nat_tests) in
          (let e : cond (nat_lt game (high + 1)) 1 0 ≡ cond (nat_lt game high) 1 0 = ap (λ b. (let one : ℕ = cond b 1 0 in one)) same in omega (arith, e))
    ] refl

-- ---- one game more
once_more : (high : ℕ) (some after : List ℕ) → ((game : ℕ) → times_of after game ≡ times_of some game + cond (high == game) 1 0) → IsOnceEach high some → IsOnceEach (high + 1) after
once_more high some after step once game = step game ∙ ap (λ n. n + cond (high == game) 1 0) (once game) ∙ number_below high game

once_put : (high : ℕ) (put back : List ℕ) → IsOnceEach high (put ++ back) → IsOnceEach (high + 1) ((put ++ high ∷ []) ++ back)
once_put high put back once = once_more high (put ++ back) ((put ++ high ∷ []) ++ back)
    (λ game. (let both = times_append game (put ++ high ∷ []) back in let was = times_append game put back in let last = times_push put high game in omega (arith, both, was, last))) once

once_back : (high : ℕ) (put back : List ℕ) → IsOnceEach high (put ++ back) → IsOnceEach (high + 1) (put ++ (back ++ high ∷ []))
once_back high put back once = once_more high (put ++ back) (put ++ (back ++ high ∷ []))
    (λ game. (let both = times_append game put (back ++ high ∷ []) in let was = times_append game put back in let last = times_push back high game in omega (arith, both, was, last))) once

pub dealt_more : (shared : Shared) (job : WrittenGame) (before after : Worker) (high next : ℕ) → job.game ≡ high → next ≡ high + 1 →
    IsOffered shared job before after → IsDealt shared high before → IsDealt shared next after
dealt_more shared job before after high next is more offered h = ⊎_elim
    (λ (put : (after.endpoint ≡ putting before.endpoint (Job job)) × (after.counted ≡ before.counted)). (let all : IsDealt shared next after = record {
      back = h.back;
      counted = subst (HasCounted shared h.back) (sym put.1) h.counted;
      once = subst (λ n. IsOnceEach n (after.endpoint.put ++ h.back)) (sym more)
          (subst (λ (list : List ℕ). IsOnceEach (high + 1) (list ++ h.back)) (ap (λ g. before.endpoint.put ++ g ∷ []) (sym is) ∙ ap (λ (v : Knowledge). v.put) (sym put.0)) (once_put high before.endpoint.put h.back h.once));
    } in all))
    (λ (here : (after.endpoint ≡ before.endpoint) × CountsGame shared job.game before after). (let all : IsDealt shared next after = record {
      back = h.back ++ job.game ∷ [];
      counted = here.1 h.back h.counted;
      once = subst (λ n. IsOnceEach n (after.endpoint.put ++ (h.back ++ job.game ∷ []))) (sym more)
          (subst (λ (list : List ℕ). IsOnceEach (high + 1) (list ++ (h.back ++ job.game ∷ []))) (ap (λ (v : Knowledge). v.put) (sym here.0))
          (subst (λ g. IsOnceEach (high + 1) (before.endpoint.put ++ (h.back ++ g ∷ []))) (sym is) (once_back high before.endpoint.put h.back h.once)));
    } in all))
    offered

-- the endpoint of either
pub endpoint_of_offered : (shared : Shared) (job : WrittenGame) (before after : Worker) → IsOffered shared job before after →
    (after.endpoint ≡ putting before.endpoint (Job job)) ⊎ (after.endpoint ≡ before.endpoint)
endpoint_of_offered shared job before after offered = ⊎_elim
    (λ (put : (after.endpoint ≡ putting before.endpoint (Job job)) × (after.counted ≡ before.counted)). inl put.0)
    (λ (here : (after.endpoint ≡ before.endpoint) × CountsGame shared job.game before after). inr here.0)
    offered

-- an endpoint that has put something, and nothing else of it has changed
abbrev pub HasPut : Knowledge → Knowledge → Type 0
HasPut before after = after ≡ record before { put = after.put }

pub put_more : (job : WrittenGame) (first before after : Knowledge) → HasPut first before → (after ≡ putting before (Job job)) ⊎ (after ≡ before) → HasPut first after
put_more job first before after so_far offered =
    let step : HasPut before after = ⊎_elim
    (λ (put : after ≡ putting before (Job job)). put ∙ ap (λ (list : List ℕ). (let v : Knowledge = record before { put = list } in v)) (sym (ap (λ (v : Knowledge). v.put) put)))
    (λ (back : after ≡ before). back ∙ ap (λ (list : List ℕ). (let v : Knowledge = record before { put = list } in v)) (sym (ap (λ (v : Knowledge). v.put) back)))
    offered in
    step ∙ ap (λ (v : Knowledge). (let w : Knowledge = record v { put = after.put } in w)) so_far

-- ---- all games were dealt out, and then it drew
module _ (shared : Shared) (first : Knowledge) (dealt : Worker) (high : ℕ) (put : HasPut first dealt.endpoint) (none : first.drawn ≡ []) (h : IsDealt shared high dealt) where
  counted_so_far : HasCounted shared (h.back ++ dealt.endpoint.drawn) dealt.counted
  counted_so_far =
      let nothing : h.back ++ dealt.endpoint.drawn ≡ h.back = ap (λ (v : Knowledge). h.back ++ v.drawn) put ∙ ap (λ (list : List ℕ). h.back ++ list) none ∙ append-nil h.back in
      subst (λ games. HasCounted shared games dealt.counted) (sym nothing) h.counted

  pub dealt_at_work : first.bytes ≡ shared.bytes.now → IsAtWork shared dealt
  dealt_at_work is = record { bytes_are = ap (λ (v : Knowledge). v.bytes) put ∙ is; back = h.back; counted = counted_so_far }

  module _ (last : Worker) (on : GoesOn shared dealt last) where
    pub endpoint_of_reading : last.endpoint ≡ record first { put = last.endpoint.put; drawn = last.endpoint.drawn; ends_put = last.endpoint.ends_put; ends_drawn = last.endpoint.ends_drawn }
    endpoint_of_reading =
        on.endpoint
        ∙ ap (λ (v : Knowledge). (let w : Knowledge = record v { drawn = last.endpoint.drawn; ends_put = last.endpoint.ends_put; ends_drawn = last.endpoint.ends_drawn } in w)) put
        ∙ ap (λ (list : List ℕ). (let w : Knowledge = record first { put = list; drawn = last.endpoint.drawn; ends_put = last.endpoint.ends_put; ends_drawn = last.endpoint.ends_drawn } in w)) (sym (ap (λ (v : Knowledge). v.put) on.endpoint))

    pub counted_in_reading : HasCounted shared (h.back ++ last.endpoint.drawn) last.counted
    counted_in_reading = on.counted h.back counted_so_far

    pub once_in_reading : IsOnceEach high (last.endpoint.put ++ h.back)
    once_in_reading = subst (λ (list : List ℕ). IsOnceEach high (list ++ h.back)) (sym (ap (λ (v : Knowledge). v.put) on.endpoint)) h.once
