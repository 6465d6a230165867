-- What workers hand back is taken up, one after another.
use Rattle.std.proofs.Common.{◌≡◌, ℕ, ◌+◌, ◌<◌, ◌≤◌, false, inl, inr, IfNone, IfSome, List, [], ◌∷◌, ◌++◌, length, length-append, None, Some, Option, refl, ap, ap₂, sym, subst, ◌∙◌, arith, append_assoc, append-nil, ⊎_elim, All, Contains}
use Rattle.std.specs.List.{AllByRecursion, cons_option}
use Rattle.std.proofs.lemmas.List.{map-append}
use Rattle.std.proofs.lemmas.List.Elements.{All-nil, All-push, All-weaker, Contains-push, Contains-append_left, filter_map-append}
use Rattle.shape_core.specs.declared.words.Kinds.{Kinds}
use Rattle.slot_table.specs.declared.entries.Happened.{Happened}
use Rattle.slot_table.specs.Passes.{Numbers, Known, IsPassOf, Met, calls_of}
use Rattle.slot_table.proofs.Meetings.{met_calls}
use Rattle.job_core.specs.declared.knowledge.Knowledge.{Knowledge}
use Rattle.job_core.specs.Rule.{taking_up, all_parts}
use Rattle.game_core.specs.Games.{HasReadAll}
use Rattle.slot_table.specs.Stakes.{IsAsMuch}
use Rattle.game_core.specs.declared.reports.Report.{Report}
use Rattle.gather_core.specs.Shares.{Held}
use Rattle.gather_core.specs.Covering.{times_of, all_games}
use Rattle.harvest_faults.specs.declared.faults.HarvestFault.{HarvestFault}
use Rattle.harvest_faults.specs.declared.faults.HarvestFault.TheVariants as fault
use Rattle.table_harvest.specs.declared.workers.Worker.{Worker}
use Rattle.table_harvest.specs.declared.workers.Returned.{Returned}
use Rattle.table_harvest.specs.declared.working.Worked.{Worked}
use Rattle.table_harvest.specs.InTable.{IsInTable}
use Rattle.table_harvest.specs.Working.{IsCallIn}
use Rattle.table_harvest.specs.Inner.Parted.{shares_of, refusals_of}
use Rattle.table_harvest.specs.Inner.Threads.{StandsAmong, AgreesWithTable, IsBackOf, HasTaken, IsJoinable, AreResults, workers_of, stakes_back, numbers_back}
use Rattle.harvest_core.specs.Harvest.{IsCountRefused}
use Rattle.table_harvest.specs.Inner.Reading.{IsOnceEach, AreDealt}
use Rattle.table_harvest.specs.declared.reading.Reading.{Reading}
use Rattle.table_harvest.specs.declared.taking.Results.{Results}
use Rattle.table_harvest.proofs.CallsIn.{calls_in_input}
use Rattle.table_harvest.specs.Inner.Working.{IsWorkOf}
use Rattle.table_harvest.proofs.InTable.{still_in_table, call_in_kept}
use Rattle.table_harvest.proofs.Dealt.{times_both}

-- what stands in the rows of some stands in those of more
pub among_more : (worked : List Worked) (one : Worked) (e : Happened) → StandsAmong worked e → StandsAmong (worked ++ one ∷ []) e
among_more worked one e h = record { one = h.one; among = Contains-append_left worked (one ∷ []) h.one h.among; stands = h.stands }

module _ {O : Type 0} (table : Numbers O) (bytes : List ℕ) (kinds : Kinds) (earlier : List Happened) where
  -- what was counted agrees with the table when the pass has met another
  pub agrees_more : (pass other both : Known O) (worked : List Worked) (one : Worked) → Met table.slots pass other both → IsPassOf table both → IsPassOf table other →
      ((e : Happened) → Contains (calls_of other) e → IsCallIn table.slots other.seen bytes kinds e) → IsInTable table.slots other.seen (calls_of other) one →
      AgreesWithTable table bytes kinds earlier pass worked → AgreesWithTable table bytes kinds earlier both (worked ++ one ∷ [])
  agrees_more pass other both worked one met is of_other calls in_table h =
      let split = λ (e : Happened). met_calls table pass other both e h.is_of of_other met in
      record {
        is_of = is;
        calls = λ e there. ⊎_elim
            (λ (mine : Contains (calls_of pass) e). ⊎_elim
            (λ (old : Contains earlier e). inl old)
            (λ (new : IsCallIn table.slots pass.seen bytes kinds e × StandsAmong worked e). inr (call_in_kept table.slots pass.seen both.seen bytes kinds met.keeps_one e new.0, among_more worked one e new.1))
            (h.calls e mine))
            (λ (theirs : Contains (calls_of other) e). inr (
              call_in_kept table.slots other.seen both.seen bytes kinds met.keeps_other e (calls e theirs),
              record { one = one; among = Contains-push worked one; stands = λ rows. in_table.calls_stand rows e theirs },
            ))
            ((split e).0 there);
        kept = λ e was. (split e).1 (inl (h.kept e was));
        in_table = All-push (IsInTable table.slots both.seen []) worked one
            (All-weaker (IsInTable table.slots pass.seen []) (IsInTable table.slots both.seen []) (λ w i. still_in_table table.slots pass.seen both.seen [] w met.keeps_one i) worked h.in_table)
            (let i = still_in_table table.slots other.seen both.seen (calls_of other) one met.keeps_other in_table in
            record { stands = i.stands; marked = i.marked; calls_stand = λ rows e none. absurd (let low = none.1 in omega arith); full = i.full });
      }

-- ---- what the endpoints drew
refusals_more : (worked : List Worked) (one : Worked) → refusals_of (worked ++ one ∷ []) ≡ refusals_of worked ++ cons_option one.refused []
refusals_more worked one = filter_map-append (λ (w : Worked). w.refused) worked (one ∷ [])

-- where no one was refused, neither these nor the last were
pub none_refused : (worked : List Worked) (one : Worked) → refusals_of (worked ++ one ∷ []) ≡ [] → (refusals_of worked ≡ []) × (one.refused ≡ None)
none_refused worked one none =
    let both : refusals_of worked ++ cons_option one.refused [] ≡ [] = sym (refusals_more worked one) ∙ none in
    (front (refusals_of worked) (cons_option one.refused []) both, last one.refused (back (refusals_of worked) (cons_option one.refused []) both))
  where
    front : (xs ys : List HarvestFault) → xs ++ ys ≡ [] → xs ≡ []
    front [] ys e = refl
    front (x ∷ xs) ys e = absurd cc

    back : (xs ys : List HarvestFault) → xs ++ ys ≡ [] → ys ≡ []
    back [] ys e = e
    back (x ∷ xs) ys e = absurd cc

    last : (refused : Option HarvestFault) → cons_option refused [] ≡ [] → refused ≡ None
    last None e = refl
    last (Some found) e = absurd cc

games_append : (some more : List Held) → all_games (some ++ more) ≡ all_games some ++ all_games more
games_append [] more = refl
games_append (share ∷ some) more = ap (λ (xs : List ℕ). share.games ++ xs) (games_append some more) ∙ sym (append_assoc share.games (all_games some) (all_games more))

-- the games of all shares, with one more
pub games_more : (worked : List Worked) (one : Worked) (game : ℕ) →
    times_of (all_games (shares_of (worked ++ one ∷ []))) game ≡ times_of (all_games (shares_of worked)) game + times_of one.share.games game
games_more worked one game =
    ap (λ (shares : List Held). times_of (all_games shares) game) (map-append (λ (w : Worked). w.share) worked (one ∷ []))
    ∙ ap (λ (xs : List ℕ). times_of xs game) (games_append (shares_of worked) (one.share ∷ []))
    ∙ times_both (all_games (shares_of worked)) (one.share.games ++ []) game
    ∙ ap (λ (xs : List ℕ). times_of (all_games (shares_of worked)) game + times_of xs game) (append-nil one.share.games)

-- the games that were drawn are those of the shares, where no one was refused
pub taken_more : (worked : List Worked) (one : Worked) (before after drawn rest : List ℕ) → after ≡ before ++ (drawn ++ []) → drawn ≡ one.share.games ++ rest → (one.refused ≡ None → rest ≡ []) →
    (refusals_of worked ≡ [] → (game : ℕ) → times_of before game ≡ times_of (all_games (shares_of worked)) game) →
    refusals_of (worked ++ one ∷ []) ≡ [] → (game : ℕ) → times_of after game ≡ times_of (all_games (shares_of (worked ++ one ∷ []))) game
taken_more worked one before after drawn rest is first whole so_far none game =
    let both = none_refused worked one none in
    let all : drawn ≡ one.share.games = first ∙ ap (λ (xs : List ℕ). one.share.games ++ xs) (whole both.1) ∙ append-nil one.share.games in
    ap (λ (xs : List ℕ). times_of xs game) is
    ∙ times_both before (drawn ++ []) game
    ∙ ap₂ (λ a b. a + b) (so_far both.0 game) (ap (λ (xs : List ℕ). times_of xs game) (append-nil drawn ∙ all))
    ∙ sym (games_more worked one game)

pub workers_more : (worked : List Worked) (one : Worked) → workers_of (worked ++ one ∷ []) ≡ workers_of worked ++ one.share.worker ∷ []
workers_more worked one = map-append (λ (w : Worked). w.share.worker) worked (one ∷ [])

-- ---- one more is taken up
module _ {O G : Type 0} (before own after : Worker O G) (all rest : List (Returned O)) (one : Returned O) (worked : List Worked)
    (h : HasTaken before all (one ∷ rest) own worked) where
  -- the table of the thread that reads
  pub same_table : own.table.now ≡ before.table.now
  same_table = ap (λ w. w.table.now) h.own_is

  pub their_queue : one.endpoint.queue ≡ own.endpoint.queue
  their_queue = ap (λ (v : Knowledge). v.queue) h.back.0.endpoint ∙ sym (ap (λ (w : Worker O G). w.endpoint.queue) h.own_is)

  pub their_writes : one.endpoint.writes ≡ false
  their_writes = ap (λ (v : Knowledge). v.writes) h.back.0.endpoint

  pub their_pass : IsPassOf own.table.now one.pass
  their_pass = subst (λ (t : Numbers O). IsPassOf t one.pass) (sym same_table) h.back.0.pass

  pub own_pass : IsPassOf own.table.now own.pass
  own_pass = subst (λ (t : Numbers O). IsPassOf t own.pass) (sym same_table) h.counted.is_of

  endpoint_stays : after.endpoint ≡ taking_up own.endpoint one.endpoint →
      after.endpoint ≡ record before.endpoint { parts = after.endpoint.parts; taken = after.endpoint.taken; ends_drawn = after.endpoint.ends_drawn }
  endpoint_stays is =
      let D = taking_up own.endpoint one.endpoint in
      let same : D ≡ record before.endpoint { parts = D.parts; taken = D.taken; ends_drawn = D.ends_drawn } =
      ap (λ (w : Worker O G). (let v : Knowledge = record w.endpoint { parts = D.parts; taken = D.taken; ends_drawn = D.ends_drawn } in v)) h.own_is in
      is ∙ same ∙ ap (λ (d : Knowledge). (let v : Knowledge = record before.endpoint { parts = d.parts; taken = d.taken; ends_drawn = d.ends_drawn } in v)) (sym is)

  pub taken_one : after ≡ record own { endpoint = after.endpoint; pass = after.pass } → after.endpoint ≡ taking_up own.endpoint one.endpoint →
      IsPassOf own.table.now after.pass → Met own.table.now.slots own.pass one.pass after.pass →
      HasTaken before all rest after (worked ++ one.worked ∷ [])
  taken_one step endpoint is met =
      let table = before.table.now in
      let n = table.slots in
      let back = h.back.0 in
      let met_here : Met n own.pass one.pass after.pass = subst (λ (t : Numbers O). Met t.slots own.pass one.pass after.pass) same_table met in
      let is_here : IsPassOf table after.pass = subst (λ (t : Numbers O). IsPassOf t after.pass) same_table is in
      let their_parts : one.endpoint.parts ≡ 1 = ap (λ (v : Knowledge). v.parts) back.endpoint in
      let their_ends : one.endpoint.ends_drawn ≡ 1 = ap (λ (v : Knowledge). v.ends_drawn) back.endpoint in
      let their_taken : one.endpoint.taken ≡ [] = ap (λ (v : Knowledge). v.taken) back.endpoint in
      let parts : after.endpoint.parts ≡ own.endpoint.parts + one.endpoint.parts = ap (λ (v : Knowledge). v.parts) endpoint in
      let ends : after.endpoint.ends_drawn ≡ own.endpoint.ends_drawn + one.endpoint.ends_drawn = ap (λ (v : Knowledge). v.ends_drawn) endpoint in
      let list : after.endpoint.taken ≡ own.endpoint.taken ++ (one.endpoint.drawn ++ []) =
      ap (λ (v : Knowledge). v.taken) endpoint ∙ ap (λ (xs : List ℕ). own.endpoint.taken ++ (one.endpoint.drawn ++ xs)) their_taken in
      record {
        own_is = step ∙ ap (λ (w : Worker O G). (let x : Worker O G = record w { endpoint = after.endpoint; pass = after.pass } in x)) h.own_is
            ∙ ap (λ (d : Knowledge). (let x : Worker O G = record before { endpoint = d; pass = after.pass } in x)) (endpoint_stays endpoint);
        keeps = record {
          numbers = λ key p number. met_here.keeps_one.numbers key p (h.keeps.numbers key p number);
          marks = λ p game at_most. met_here.keeps_one.marks p game (h.keeps.marks p game at_most);
        };
        counted = agrees_more table before.endpoint.bytes before.kinds (calls_of before.pass) own.pass one.pass after.pass worked one.worked met_here is_here back.pass back.calls back.in_table h.counted;
        stake = ap (λ (s : List ℕ). s ++ stakes_back rest) met_here.stake ∙ append_assoc own.pass.stake one.pass.stake (stakes_back rest) ∙ h.stake;
        parts = (let p = h.parts in omega (arith, p, parts, their_parts));
        ends = (let e = h.ends in omega (arith, e, ends, their_ends));
        taken = taken_more worked one.worked own.endpoint.taken after.endpoint.taken one.endpoint.drawn back.rest list back.drawn back.whole h.taken;
        many = (let m = h.many in omega (arith, m, length-append worked (one.worked ∷ [])));
        numbers = ap (λ (ns : List ℕ). ns ++ numbers_back rest) (workers_more worked one.worked) ∙ append_assoc (workers_of worked) (one.worked.share.worker ∷ []) (numbers_back rest) ∙ h.numbers;
        worked_is = All-push (IsWorkOf before.endpoint.bytes before.kinds) worked one.worked h.worked_is back.worked_is;
        back = h.back.1;
      }

-- ---- before and after
-- nothing is taken up yet
pub taken_none : {O G : Type 0} (own : Worker O G) (all : List (Returned O)) → IsPassOf own.table.now own.pass → own.endpoint.taken ≡ [] →
    AllByRecursion (IsBackOf own.table.now own.endpoint.queue own.endpoint.bytes own.kinds) all → HasTaken own all all own []
taken_none own all is none back = record {
  own_is = refl;
  keeps = record { numbers = λ key p number. number; marks = λ p game at_most. at_most };
  counted = record {
    is_of = is;
    calls = λ e there. inl there;
    kept = λ e there. there;
    in_table = All-nil (IsInTable own.table.now.slots own.pass.seen []);
  };
  stake = refl;
  parts = refl;
  ends = refl;
  taken = λ fine game. ap (λ (xs : List ℕ). times_of xs game) none;
  many = omega arith;
  numbers = refl;
  worked_is = All-nil (IsWorkOf own.endpoint.bytes own.kinds);
  back = back;
}

module _ {O G : Type 0} (stake given : List ℕ) (lent : ℕ) (reading : Reading O G) (all : List (Returned O)) (own : Worker O G) (worked : List Worked)
    (j : IsJoinable stake given lent reading) (h : HasTaken reading.own all [] own worked) where
  table_is : reading.own.table.now ≡ j.before.table.now
  table_is = ap (λ (w : Worker O G). w.table.now) j.reading_is.own_is

  bytes_are : reading.own.endpoint.bytes ≡ j.before.endpoint.bytes
  bytes_are = ap (λ (w : Worker O G). w.endpoint.bytes) j.reading_is.own_is

  kinds_are : reading.own.kinds ≡ j.before.kinds
  kinds_are = ap (λ (w : Worker O G). w.kinds) j.reading_is.own_is

  abbrev size_of : ℕ
  size_of = reading.own.table.now.slots

  -- what the thread that reads has counted, and its calls
  mine_is : IsWorkOf reading.own.endpoint.bytes reading.own.kinds reading.worked
  mine_is = subst (λ (bs : List ℕ). IsWorkOf bs reading.own.kinds reading.worked) (sym bytes_are)
      (subst (λ ks. IsWorkOf j.before.endpoint.bytes ks reading.worked) (sym kinds_are) j.reading_is.worked_is)

  mine_in_table : IsInTable size_of reading.own.pass.seen j.reading_is.table.0 reading.worked
  mine_in_table = subst (λ (t : Numbers O). IsInTable t.slots reading.own.pass.seen j.reading_is.table.0 reading.worked) (sym table_is) j.reading_is.table.2

  made_is : calls_of reading.own.pass ≡ j.reading_is.table.0
  made_is = j.reading_is.table.1.calls ∙ ap (λ (es : List Happened). es ++ j.reading_is.table.0) j.begun

  mine_in_input : (e : Happened) → Contains (calls_of reading.own.pass) e → IsCallIn size_of reading.own.pass.seen reading.own.endpoint.bytes reading.own.kinds e
  mine_in_input e there =
      subst (λ (t : Numbers O). IsCallIn t.slots reading.own.pass.seen reading.own.endpoint.bytes reading.own.kinds e) (sym table_is)
      (subst (λ (bs : List ℕ). IsCallIn j.before.table.now.slots reading.own.pass.seen bs reading.own.kinds e) (sym bytes_are)
      (subst (λ ks. IsCallIn j.before.table.now.slots reading.own.pass.seen j.before.endpoint.bytes ks e) (sym kinds_are)
      (calls_in_input j.before.table.now.slots j.before.endpoint.bytes j.before.kinds j.before.pass reading.own.pass j.begun j.reading_is.calls e there)))

  -- all agree with the table
  all_agree : AgreesWithTable reading.own.table.now reading.own.endpoint.bytes reading.own.kinds [] own.pass (worked ++ reading.worked ∷ [])
  all_agree = record {
    is_of = h.counted.is_of;
    calls = λ e there. inr (⊎_elim
        (λ (mine : Contains (calls_of reading.own.pass) e). (
          call_in_kept size_of reading.own.pass.seen own.pass.seen reading.own.endpoint.bytes reading.own.kinds h.keeps e (mine_in_input e mine),
          record {
            one = reading.worked;
            among = Contains-push worked reading.worked;
            stands = λ rows. mine_in_table.calls_stand rows e (subst (λ (es : List Happened). Contains es e) made_is mine);
          },
        ))
        (λ (theirs : IsCallIn size_of own.pass.seen reading.own.endpoint.bytes reading.own.kinds e × StandsAmong worked e). (theirs.0, among_more worked reading.worked e theirs.1))
        (h.counted.calls e there));
    kept = λ e none. absurd (let low = none.1 in omega arith);
    in_table = All-push (IsInTable size_of own.pass.seen []) worked reading.worked h.counted.in_table
        (let i = still_in_table size_of reading.own.pass.seen own.pass.seen j.reading_is.table.0 reading.worked h.keeps mine_in_table in
        record { stands = i.stands; marked = i.marked; calls_stand = λ rows e none. absurd (let low = none.1 in omega arith); full = i.full });
  }

  -- some end was drawn, where all was read
  pub ends_drawn : length all ≡ lent → (reading.fault ≡ Some fault.Memory → ⊥) → 0 < own.endpoint.ends_drawn
  ends_drawn many fine =
      let e = h.ends in
      let w = (j.whole fine).2 in
      let some = subst (λ k. 1 ≤ k) (sym w) j.some in
      omega (arith, e, many, some)

  -- and all parts are back
  pub all_parts_back : length all ≡ lent → (reading.fault ≡ Some fault.Memory → ⊥) → own.endpoint.parts ≡ all_parts
  all_parts_back many fine =
      let p = h.parts in
      let w = (j.whole fine).1 in
      let same : reading.own.endpoint.parts ≡ j.before.endpoint.parts = ap (λ (w : Worker O G). w.endpoint.parts) j.reading_is.own_is in
      omega (arith, p, w, same, many)

  own_drawn : own.endpoint.drawn ≡ []
  own_drawn =
      ap (λ (w : Worker O G). w.endpoint.drawn) h.own_is ∙ ap (λ (w : Worker O G). w.endpoint.drawn) j.reading_is.own_is ∙ ap (λ (v : Knowledge). v.drawn) j.endpoint

  -- each game of the input is in one share once
  once_each : ((game : ℕ) → times_of own.endpoint.put game ≡ times_of (own.endpoint.drawn ++ own.endpoint.taken) game) → AreDealt reading.report.games reading.own.endpoint.put reading.worked →
      refusals_of (worked ++ reading.worked ∷ []) ≡ [] → IsOnceEach reading.report.games (all_games (shares_of (worked ++ reading.worked ∷ [])))
  once_each settled dealt none game =
      let fine = none_refused worked reading.worked none in
      let more = games_more worked reading.worked game in
      let taken = h.taken fine.0 game in
      let both = times_both reading.own.endpoint.put reading.worked.share.games game in
      let once = dealt fine.1 game in
      let put : times_of reading.own.endpoint.put game ≡ times_of own.endpoint.put game = ap (λ (w : Worker O G). times_of w.endpoint.put game) (sym h.own_is) in
      let drawn : times_of (own.endpoint.drawn ++ own.endpoint.taken) game ≡ times_of own.endpoint.taken game = ap (λ (xs : List ℕ). times_of (xs ++ own.endpoint.taken) game) own_drawn in
      let all_put = settled game in
      sym (sym once ∙ both ∙ ap (λ n. n + times_of reading.worked.share.games game) (put ∙ all_put ∙ drawn ∙ taken) ∙ sym more)

  -- what all threads have come to
  pub results_are : (results : Results O) → stakes_back all ≡ given → results.worked.items ≡ worked ++ reading.worked ∷ [] → results.pass ≡ own.pass → results.fault ≡ reading.fault → results.report ≡ reading.report →
      (reading.fault ≡ None → (game : ℕ) → times_of own.endpoint.put game ≡ times_of (own.endpoint.drawn ++ own.endpoint.taken) game) →
      AreResults reading.own.table.now reading.own.endpoint.bytes reading.own.kinds stake results
  results_are results back items pass fault_is report settled = record {
    worked_is = subst (All (IsWorkOf reading.own.endpoint.bytes reading.own.kinds)) (sym items) (All-push (IsWorkOf reading.own.endpoint.bytes reading.own.kinds) worked reading.worked h.worked_is mine_is);
    counted = subst (λ (p : Known O). AgreesWithTable reading.own.table.now reading.own.endpoint.bytes reading.own.kinds [] p results.worked.items) (sym pass)
        (subst (λ (ws : List Worked). AgreesWithTable reading.own.table.now reading.own.endpoint.bytes reading.own.kinds [] own.pass ws) (sym items) all_agree);
    stake_is = λ fine.
        let whole = (j.whole (λ is. fine (fault_is ∙ is))).0 in
        let same : results.pass.stake ≡ j.before.pass.stake ++ given =
        ap (λ (p : Known O). p.stake) pass ∙ sym (append-nil own.pass.stake) ∙ h.stake ∙ ap₂ (λ (a b : List ℕ). a ++ b) j.reading_is.calls.later.stake back in
        subst (λ (s : List ℕ). IsAsMuch s stake) (sym same) whole;
    covers = λ fine none.
        let read : reading.fault ≡ None = sym fault_is ∙ fine in
        let dealt : AreDealt reading.report.games reading.own.endpoint.put reading.worked = subst (λ o. IfNone o (AreDealt reading.report.games reading.own.endpoint.put reading.worked)) read j.reading_is.dealt in
        subst (λ (r : Report). IsOnceEach r.games (all_games (shares_of results.worked.items))) (sym report)
        (subst (λ (ws : List Worked). IsOnceEach reading.report.games (all_games (shares_of ws))) (sym items)
        (once_each (settled read) dealt (sym (ap refusals_of items) ∙ none)));
    all = subst (λ o. IfNone o (HasReadAll reading.own.endpoint.bytes results.report)) (sym fault_is)
        (subst (λ (r : Report). IfNone reading.fault (HasReadAll reading.own.endpoint.bytes r)) (sym report)
        (subst (λ (bs : List ℕ). IfNone reading.fault (HasReadAll bs reading.report)) (sym bytes_are) j.reading_is.all));
    fault_is = subst (λ o. IfSome o (IsCountRefused reading.own.endpoint.bytes)) (sym fault_is)
        (subst (λ (bs : List ℕ). IfSome reading.fault (IsCountRefused bs)) (sym bytes_are) j.reading_is.fault_is);
  }
