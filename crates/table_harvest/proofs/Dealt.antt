-- The games that the thread that reads has dealt out, after one more.
use Rattle.std.proofs.Common.{◌≡◌, ℕ, ◌+◌, ◌≤◌, ◌==◌, ◌⊎◌, Result, Ok, Err, OnOk, IfNone, nat_lt, cond, true, false, List, [], ◌∷◌, ◌++◌, Some, None, refl, ap, ap₂, sym, subst, ◌∙◌, arith, ⊎_elim}
use Rattle.std.proofs.lemmas.Bool.Decides.{nat_tests}
use Rattle.std.proofs.lemmas.List.Sums.{sum_by-append, sum_by_push}
use Rattle.std.specs.Result.{result_err}
use Rattle.job_core.specs.Rising.{past}
use Rattle.job_core.proofs.Orders.{past_on}
use Rattle.job_core.specs.declared.knowledge.Knowledge.{Knowledge}
use Rattle.job_core.specs.declared.items.Item.TheVariants.{Job}
use Rattle.game_core.specs.Games.{WrittenGame}
use Rattle.job_core.specs.Rule.{putting}
use Rattle.gather_core.specs.Covering.{times_of}
use Rattle.harvest_faults.specs.declared.faults.HarvestFault.{HarvestFault}
use Rattle.table_harvest.specs.declared.working.Worked.{Worked}
use Rattle.table_harvest.specs.Working.{IsCounted}
use Rattle.table_harvest.specs.Inner.Reading.{IsOnceEach, AreDealt}

-- how often a game is in two lists
pub times_both : (some more : List ℕ) (game : ℕ) → times_of (some ++ more) game ≡ times_of some game + times_of more game
times_both some more game = sum_by-append (λ (one : ℕ). cond (one == game) 1 0) some more

pub times_push : (some : List ℕ) (last game : ℕ) → times_of (some ++ last ∷ []) game ≡ times_of some game + cond (last == game) 1 0
times_push some last game = sum_by_push (λ (one : ℕ). cond (one == game) 1 0) some last

-- one number more is below the next
number_below : (high game : ℕ) → cond (nat_lt game high) 1 0 + cond (high == game) 1 0 ≡ cond (nat_lt game (high + 1)) 1 0
number_below high game =
    elim (high == game) as (λ b. (high == game) ≡ b → cond (nat_lt game high) 1 0 + cond b 1 0 ≡ cond (nat_lt game (high + 1)) 1 0) [
      | true ↦ λ test.
          let same : high ≡ game = Prim.grind (arith, nat_tests) in
          let no : nat_lt game high ≡ false = Prim.grind (arith, nat_tests) in
          let yes : nat_lt game (high + 1) ≡ true = Prim.grind (arith, nat_tests) in
          ap (λ b. cond b 1 0 + 1) no ∙ sym (ap (λ b. cond b 1 0) yes)
      | false ↦ λ test.
          let other : (high ≡ game) → ⊥ = λ e. Prim.grind (arith, nat_tests) in
          let same : nat_lt game (high + 1) ≡ nat_lt game high = Prim.grind (arith, nat_tests) in
          (let e : cond (nat_lt game (high + 1)) 1 0 ≡ cond (nat_lt game high) 1 0 = ap (λ b. (let one : ℕ = cond b 1 0 in one)) same in omega (arith, e))
    ] refl

-- nothing was dealt out yet
pub dealt_none : (put : List ℕ) (worked : Worked) (high : ℕ) → high ≡ 0 → put ≡ [] → worked.share.games ≡ [] → AreDealt high put worked
dealt_none put worked high zero none games ok game =
    let test : nat_lt game high ≡ false = Prim.grind (arith, nat_tests) in
    ap₂ (λ (a b : List ℕ). times_of (a ++ b) game) none games ∙ sym (ap (λ b. cond b 1 0) test)

-- one more was put into the queue, or counted here
once_more : (high : ℕ) (some more after : List ℕ) → ((game : ℕ) → times_of after game ≡ times_of (some ++ more) game + cond (high == game) 1 0) → IsOnceEach high (some ++ more) → IsOnceEach (high + 1) after
once_more high some more after step once game = step game ∙ ap (λ n. n + cond (high == game) 1 0) (once game) ∙ number_below high game

pub dealt_more : (job : WrittenGame) (before after : Knowledge) (old new : Worked) (high next : ℕ) → job.game ≡ high → next ≡ high + 1 →
    ((after ≡ putting before (Job job)) × (new ≡ old)) ⊎ ((after ≡ before) × IsCounted job.game old new) →
    AreDealt high before.put old → AreDealt next after.put new
dealt_more job before after old new high next is more offered dealt none = subst (λ n. IsOnceEach n (after.put ++ new.share.games)) (sym more) (⊎_elim
    (λ (put : (after ≡ putting before (Job job)) × (new ≡ old)).
    once_more high before.put old.share.games (after.put ++ new.share.games)
    (λ game.
    let list : after.put ≡ before.put ++ job.game ∷ [] = ap (λ (v : Knowledge). v.put) put.0 in
    let games : new.share.games ≡ old.share.games = ap (λ (w : Worked). w.share.games) put.1 in
    let both = times_both after.put new.share.games game in
    let was = times_both before.put old.share.games game in
    let one = ap (λ (xs : List ℕ). times_of xs game) list ∙ times_push before.put job.game game in
    let other = ap (λ (xs : List ℕ). times_of xs game) games in
    let last = ap (λ g. (let one : ℕ = cond (g == game) 1 0 in one)) is in
    omega (arith, both, was, one, other, last))
    (dealt (ap (λ (w : Worked). w.refused) (sym put.1) ∙ none)))
    (λ (counted : (after ≡ before) × IsCounted job.game old new). counted_more job.game before after old new high is counted.0 none dealt counted.1)
    offered)
  where
    counted_more : (g : ℕ) (before after : Knowledge) (old new : Worked) (high : ℕ) → g ≡ high → after ≡ before → new.refused ≡ None → AreDealt high before.put old → IsCounted g old new →
        IsOnceEach (high + 1) (after.put ++ new.share.games)
    counted_more g before after old new high is same none dealt counted = ⊎_elim
        (λ (added : (new.share.games ≡ old.share.games ++ g ∷ []) × (old.refused ≡ None) × (new.refused ≡ None)).
        once_more high before.put old.share.games (after.put ++ new.share.games)
        (λ game.
        let both = times_both after.put new.share.games game in
        let was = times_both before.put old.share.games game in
        let one = ap (λ (v : Knowledge). times_of v.put game) same in
        let other = ap (λ (xs : List ℕ). times_of xs game) added.0 ∙ times_push old.share.games g game in
        let last = ap (λ k. (let one : ℕ = cond (k == game) 1 0 in one)) is in
        omega (arith, both, was, one, other, last))
        (dealt added.1))
        (λ (not : (((found : HarvestFault) × (old.refused ≡ Some found)) × (new ≡ old))
        ⊎ ((new.share.games ≡ old.share.games) × (old.refused ≡ None) × ((found : HarvestFault) × (new.refused ≡ Some found)))). ⊎_elim
        (λ (had : ((found : HarvestFault) × (old.refused ≡ Some found)) × (new ≡ old)).
        let clash : Some had.0.0 ≡ None = sym had.0.1 ∙ ap (λ (w : Worked). w.refused) (sym had.1) ∙ none in absurd cc)
        (λ (now : (new.share.games ≡ old.share.games) × (old.refused ≡ None) × ((found : HarvestFault) × (new.refused ≡ Some found))).
        let clash : Some now.2.0 ≡ None = sym now.2.1 ∙ none in absurd cc)
        not)
        counted

-- a job was put, or its game was counted here
abbrev IsOffered : WrittenGame → Knowledge → Worked → Knowledge → Worked → Type 0
IsOffered job endpoint one after two = ((after ≡ putting endpoint (Job job)) × (two ≡ one)) ⊎ ((after ≡ endpoint) × IsCounted job.game one two)

-- the number after the games that were counted here is at most that of the next game
counted_below : (number : ℕ) (one two : Worked) → IsCounted number one two → past one.share.games ≤ number → past two.share.games ≤ number + 1
counted_below number one two counted below = ⊎_elim
    (λ (added : (two.share.games ≡ one.share.games ++ number ∷ []) × (one.refused ≡ None) × (two.refused ≡ None)).
    omega (arith, ap past added.0, past_on one.share.games number))
    (λ (not : (((found : HarvestFault) × (one.refused ≡ Some found)) × (two ≡ one))
    ⊎ ((two.share.games ≡ one.share.games) × (one.refused ≡ None) × ((found : HarvestFault) × (two.refused ≡ Some found)))). ⊎_elim
    (λ (before : ((found : HarvestFault) × (one.refused ≡ Some found)) × (two ≡ one)). omega (arith, ap (λ (w : Worked). past w.share.games) before.1, below))
    (λ (now : (two.share.games ≡ one.share.games) × (one.refused ≡ None) × ((found : HarvestFault) × (two.refused ≡ Some found))). omega (arith, ap past now.0, below))
    not)
    counted

pub below_next : (job : WrittenGame) (endpoint : Knowledge) (one : Worked) (after : Knowledge) (two : Worked) (high next : ℕ) → job.game ≡ high → next ≡ high + 1 →
    IsOffered job endpoint one after two → past one.share.games ≤ high → past two.share.games ≤ next
below_next job endpoint one after two high next is up offered below = ⊎_elim
    (λ (put : (after ≡ putting endpoint (Job job)) × (two ≡ one)). omega (arith, ap (λ (w : Worked). past w.share.games) put.1, up, below))
    (λ (here : (after ≡ endpoint) × IsCounted job.game one two). omega (arith, counted_below job.game one two here.1 (omega (arith, is, below)), is, up))
    offered

-- what holds where a call answers well holds where it has no fault
pub none_where_ok : {T E : Type 0} (r : Result T E) (P : Type 0) → OnOk r P → IfNone (result_err r) P
none_where_ok (Ok x) P h = h
none_where_ok (Err e) P h = tt
