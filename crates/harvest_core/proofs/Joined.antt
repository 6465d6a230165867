-- The endpoints of all threads taken up, one after another: each game of the input is in their shares once.
use Rattle.std.proofs.Common.{◌≡◌, ℕ, ◌+◌, ◌<◌, ◌≤◌, nat_lt, true, false, cond, List, [], ◌∷◌, ◌++◌, length, refl, ap, ap₂, sym, ◌∙◌, arith, append_assoc, append-nil, All}
use Rattle.std.proofs.lemmas.Bool.Decides.{nat_tests}
use Rattle.std.proofs.lemmas.List.Elements.{All-nil, All-push, recursion_from_All}
use Rattle.job_core.specs.declared.knowledge.Knowledge.{Knowledge}
use Rattle.job_core.specs.Rule.{taking_up, all_parts}
use Rattle.job_core.specs.Which.{id_of}
use Rattle.job_core.proofs.Sums.{times_append}
use Rattle.gather_core.specs.Shares.{Held}
use Rattle.gather_core.specs.Covering.{times_of, all_games, Covers}
use Rattle.harvest_core.specs.Working.{IsOfInput}
use Rattle.harvest_core.specs.declared.workers.Shared.{Shared}
use Rattle.harvest_core.specs.declared.workers.Worker.{Worker}
use Rattle.harvest_core.specs.declared.reading.Reading.{Reading}
use Rattle.harvest_core.specs.Inner.Working.{IsShareOfGames}
use Rattle.harvest_core.specs.Inner.Threads.{IsBackOf, HasTaken, IsJoinable}

games_append : (some more : List Held) → all_games (some ++ more) ≡ all_games some ++ all_games more
games_append [] more = refl
games_append (share ∷ some) more = ap (λ (xs : List ℕ). share.games ++ xs) (games_append some more) ∙ sym (append_assoc share.games (all_games some) (all_games more))

games_push : (some : List Held) (share : Held) → all_games (some ++ share ∷ []) ≡ all_games some ++ share.games
games_push some share = games_append some (share ∷ []) ∙ ap (λ (xs : List ℕ). all_games some ++ xs) (append-nil share.games)

-- ---- one more is taken up
-- nothing is taken up yet
pub taken_none : (shared : Shared) (own : Knowledge) (all : List Worker) → own.queue ≡ id_of shared.queue.now → All (IsBackOf shared) all →
    HasTaken shared own (length all) all own []
taken_none shared own all is back = record {
  own_is = refl;
  queue_is = is;
  parts = refl;
  ends = (let low : own.ends_drawn ≤ own.ends_drawn = omega arith in low);
  taken = sym (append-nil own.taken);
  shares_are = All-nil (IsOfInput shared.bytes.now shared.kinds);
  back = recursion_from_All (IsBackOf shared) all back;
}

module _ (shared : Shared) (before own : Knowledge) (many : ℕ) (one : Worker) (rest : List Worker) (shares : List Held)
    (h : HasTaken shared before many (one ∷ rest) own shares) where
  pub their_queue : one.endpoint.queue ≡ own.queue
  their_queue = ap (λ (v : Knowledge). v.queue) h.back.0.endpoint ∙ sym (ap (λ (v : Knowledge). v.queue) h.own_is ∙ h.queue_is)

  pub their_writes : one.endpoint.writes ≡ false
  their_writes = ap (λ (v : Knowledge). v.writes) h.back.0.endpoint

  pub taken_one : (share : Held) (after : Knowledge) → IsShareOfGames shared one.endpoint.drawn share → after ≡ taking_up own one.endpoint →
      HasTaken shared before many rest after (shares ++ share ∷ [])
  taken_one share after of is =
      let back = h.back.0 in
      let their_parts : one.endpoint.parts ≡ 1 = ap (λ (v : Knowledge). v.parts) back.endpoint in
      let their_taken : one.endpoint.taken ≡ [] = ap (λ (v : Knowledge). v.taken) back.endpoint in
      let parts : after.parts ≡ own.parts + one.endpoint.parts = ap (λ (v : Knowledge). v.parts) is in
      let ends : after.ends_drawn ≡ own.ends_drawn + one.endpoint.ends_drawn = ap (λ (v : Knowledge). v.ends_drawn) is in
      let D = taking_up own one.endpoint in
      let same : D ≡ record before { parts = D.parts; taken = D.taken; ends_drawn = D.ends_drawn } =
      ap (λ (v : Knowledge). (let w : Knowledge = record v { parts = D.parts; taken = D.taken; ends_drawn = D.ends_drawn } in w)) h.own_is in
      record {
        own_is = is ∙ same ∙ ap (λ (d : Knowledge). (let w : Knowledge = record before { parts = d.parts; taken = d.taken; ends_drawn = d.ends_drawn } in w)) (sym is);
        queue_is = h.queue_is;
        parts = (let p = h.parts in omega (arith, p, parts, their_parts));
        ends = (let e = h.ends in omega (arith, e, ends));
        taken = ap (λ (v : Knowledge). v.taken) is
            ∙ ap₂ (λ (a b : List ℕ). a ++ b) h.taken (ap (λ (xs : List ℕ). one.endpoint.drawn ++ xs) their_taken ∙ append-nil one.endpoint.drawn ∙ sym of.games_are)
            ∙ append_assoc before.taken (all_games shares) share.games
            ∙ ap (λ (xs : List ℕ). before.taken ++ xs) (sym (games_push shares share));
        shares_are = All-push (IsOfInput shared.bytes.now shared.kinds) shares share h.shares_are of.of_input;
        back = h.back.1;
      }

-- ---- all are taken up
module _ (shared : Shared) (many : ℕ) (reading : Reading) (own : Knowledge) (shares : List Held)
    (j : IsJoinable shared many reading) (h : HasTaken shared reading.own.endpoint many [] own shares) where
  pub all_parts_back : own.parts ≡ all_parts
  all_parts_back =
      let p = h.parts in
      let w = j.all in
      let same : reading.own.endpoint.parts ≡ j.parts = ap (λ (v : Knowledge). v.parts) j.reading_is.endpoint in
      omega (arith, p, w, same)

  pub some_end : 0 < own.ends_drawn
  some_end = (let e = h.ends in let d = j.reading_is.ended in omega (arith, e, d))

  -- each game of the input is in one share once
  pub covers_all : (share : Held) → IsShareOfGames shared (j.reading_is.back ++ reading.own.endpoint.drawn) share →
      ((game : ℕ) → times_of own.put game ≡ times_of (own.drawn ++ own.taken) game) → Covers reading.report.games (all_games (shares ++ share ∷ []))
  covers_all share of settled game low =
      let back = j.reading_is.back in
      let endpoint = reading.own.endpoint in
      let once = j.reading_is.once game in
      let below : nat_lt game reading.report.games ≡ true = Prim.grind (arith, nat_tests) in
      let one : cond (nat_lt game reading.report.games) 1 0 ≡ 1 = ap (λ b. (let n : ℕ = cond b 1 0 in n)) below in
      let both = times_append game endpoint.put back in
      let put : times_of endpoint.put game ≡ times_of own.put game = ap (λ (v : Knowledge). times_of v.put game) (sym h.own_is) in
      let all_put = settled game in
      let parted = times_append game own.drawn own.taken in
      let drawn : times_of own.drawn game ≡ times_of endpoint.drawn game = ap (λ (v : Knowledge). times_of v.drawn game) h.own_is in
      let none : endpoint.taken ≡ [] = ap (λ (v : Knowledge). v.taken) j.reading_is.endpoint in
      let taken : times_of own.taken game ≡ times_of (all_games shares) game = ap (λ (xs : List ℕ). times_of xs game) (h.taken ∙ ap (λ (xs : List ℕ). xs ++ all_games shares) none) in
      let list = ap (λ (xs : List ℕ). times_of xs game) (games_push shares share) in
      let more = times_append game (all_games shares) share.games in
      let mine = ap (λ (xs : List ℕ). times_of xs game) of.games_are in
      let apart = times_append game back endpoint.drawn in
      omega (arith, once, one, both, put, all_put, parted, drawn, taken, list, more, mine, apart)
