-- What threads have promised, and what they hand back.
use Rattle.std.proofs.Common.{◌≡◌, ℕ, ◌+◌, ◌-◌, ◌<◌, ◌≤◌, inl, inr, Some, zero, suc, List, [], ◌∷◌, ◌++◌, length, refl, ap, ap₂, sym, subst, ◌∙◌, arith, append_assoc, append-nil, All}
use Rattle.std.specs.Prelude.{slice_index_or}
use Rattle.std.specs.declared.thread.PromisedHandle.{PromisedHandle}
use Rattle.atomic_table.specs.Seated.{TableId}
use Rattle.shape_core.specs.declared.words.Kinds.{Kinds}
use Rattle.shape_core.specs.Word.{count_from}
use Rattle.slot_table.specs.declared.entries.Happened.{Happened}
use Rattle.std.proofs.lemmas.Bool.{cases_eq}
use Rattle.slot_table.specs.Passes.{Numbers, Known, IsPassOf, calls_of}
use Rattle.slot_table.specs.Stakes.{IsAsMuch, halved, half_of}
use Rattle.job_core.specs.Rule.{reader, all_parts}
use Rattle.job_core.specs.declared.knowledge.Knowledge.{Knowledge}
use Rattle.table_harvest.proofs.CallsIn.{calls_in_input, among_in_input}
use Rattle.table_harvest.specs.declared.threads.BackTo.{BackTo}
use Rattle.table_harvest.specs.declared.workers.Returned.{Returned}
use Rattle.table_harvest.specs.InTable.{IsInTable}
use Rattle.harvest_core.specs.Working.{IsWorked}
use Rattle.table_harvest.specs.Working.{IsReturned, IsRefused, IsCallIn}
use Rattle.table_harvest.specs.Inner.Threads.{IsFresh, IsCaller, IsHandleOf, IsBackOf, IsJoinable, stakes_of, promised_of, stakes_back, numbers_back}
use Rattle.table_harvest.specs.Inner.Reading.{IsReadingOf}
use Rattle.table_harvest.specs.declared.threads.Caller.{Caller}
use Rattle.table_harvest.specs.declared.workers.Worker.{Worker}
use Rattle.table_harvest.specs.declared.reading.Reading.{Reading}
use Rattle.harvest_faults.specs.declared.faults.HarvestFault.TheVariants as fault

-- ---- what was given away comes back
pub stakes_come_back : {O : Type 0} (all : List (Returned O)) (handles : List (PromisedHandle (Returned O) (BackTo O))) → length all ≡ length handles
    → ((k : ℕ) (one : Returned O) (other : PromisedHandle (Returned O) (BackTo O)) → k < length handles
    → (slice_index_or all k one).pass.stake ≡ (slice_index_or handles k other).promise.pass.value.stake)
    → stakes_back all ≡ stakes_of handles
stakes_come_back [] [] same each = refl
stakes_come_back [] (handle ∷ handles) same each = absurd (omega (arith, same))
stakes_come_back (one ∷ all) [] same each = absurd (omega (arith, same))
stakes_come_back (one ∷ all) (handle ∷ handles) same each =
    ap₂ (λ (s t : List ℕ). s ++ t) (each 0 one handle (omega arith)) (stakes_come_back all handles (omega (arith, same)) (λ k o h low. each (suc k) o h (omega (arith, low))))

pub numbers_come_back : {O : Type 0} (all : List (Returned O)) (handles : List (PromisedHandle (Returned O) (BackTo O))) → length all ≡ length handles
    → ((k : ℕ) (one : Returned O) (other : PromisedHandle (Returned O) (BackTo O)) → k < length handles
    → (slice_index_or all k one).worked.share.worker ≡ (slice_index_or handles k other).promise.number)
    → numbers_back all ≡ promised_of handles
numbers_come_back [] [] same each = refl
numbers_come_back [] (handle ∷ handles) same each = absurd (omega (arith, same))
numbers_come_back (one ∷ all) [] same each = absurd (omega (arith, same))
numbers_come_back (one ∷ all) (handle ∷ handles) same each =
    ap₂ (λ (n : ℕ) (ns : List ℕ). n ∷ ns) (each 0 one handle (omega arith)) (numbers_come_back all handles (omega (arith, same)) (λ k o h low. each (suc k) o h (omega (arith, low))))

-- ---- one worker more
pub stakes_more : {O : Type 0} (handles : List (PromisedHandle (Returned O) (BackTo O))) (handle : PromisedHandle (Returned O) (BackTo O))
    → stakes_of (handles ++ handle ∷ []) ≡ stakes_of handles ++ handle.promise.pass.value.stake
stakes_more [] handle = append-nil handle.promise.pass.value.stake
stakes_more (one ∷ handles) handle =
    ap (λ (s : List ℕ). one.promise.pass.value.stake ++ s) (stakes_more handles handle)
    ∙ sym (append_assoc one.promise.pass.value.stake (stakes_of handles) handle.promise.pass.value.stake)

promised_push : {O : Type 0} (handles : List (PromisedHandle (Returned O) (BackTo O))) (handle : PromisedHandle (Returned O) (BackTo O))
    → promised_of (handles ++ handle ∷ []) ≡ promised_of handles ++ handle.promise.number ∷ []
promised_push [] handle = refl
promised_push (one ∷ handles) handle = ap (λ (ns : List ℕ). one.promise.number ∷ ns) (promised_push handles handle)

-- one number more
count_more : (from count : ℕ) → count_from from (suc count) ≡ count_from from count ++ (from + count) ∷ []
count_more from zero = let e : from ≡ from + 0 = omega arith in ap (λ n. n ∷ []) e
count_more from (suc count) =
    let e : suc from + count ≡ from + suc count = omega arith in
    ap (λ ns. from ∷ ns) (count_more (suc from) count ∙ ap (λ n. count_from (suc from) count ++ n ∷ []) e)

pub promised_more : {O : Type 0} (handles : List (PromisedHandle (Returned O) (BackTo O))) (handle : PromisedHandle (Returned O) (BackTo O)) (started : ℕ) → promised_of handles ≡ count_from 1 started →
    handle.promise.number ≡ started + 1 → promised_of (handles ++ handle ∷ []) ≡ count_from 1 (started + 1)
promised_more handles handle started so_far number =
    let e : started + 1 ≡ suc started = omega arith in
    let next : started + 1 ≡ 1 + started = omega arith in
    promised_push handles handle
    ∙ ap₂ (λ (ns : List ℕ) (n : ℕ). ns ++ n ∷ []) so_far (number ∙ next)
    ∙ sym (count_more 1 started)
    ∙ ap (count_from 1) (sym e)

-- ---- a worker that was fresh
-- what it hands back
pub back_of : {O : Type 0} (table : Numbers O) (queue : TableId) (bytes : List ℕ) (kinds : Kinds) (number : ℕ) (endpoint : Knowledge) (pass : Known O) (back : Returned O) →
    IsFresh table queue bytes endpoint pass → IsReturned table kinds number endpoint pass back → IsBackOf table queue bytes kinds back
back_of table queue bytes kinds number endpoint pass back fresh h =
    let n = table.slots in
    let input : endpoint.bytes ≡ bytes = ap (λ (v : Knowledge). v.bytes) fresh.endpoint_is in
    let drawn = h.drawn in
    record {
      pass = h.pass_is;
      endpoint = drawn.same ∙ ap (λ (d : Knowledge). (let v : Knowledge = record d { drawn = back.endpoint.drawn; ends_drawn = d.ends_drawn + 1 } in v)) fresh.endpoint_is;
      rest = drawn.rest;
      drawn = drawn.all ∙ ap (λ (v : Knowledge). v.drawn ++ drawn.drawn) fresh.endpoint_is ∙ drawn.first;
      whole = drawn.whole;
      worked_is = (
        subst (λ (bs : List ℕ). IsWorked bs kinds back.worked.share) input h.worked_is,
        subst (λ (bs : List ℕ). IsRefused bs kinds back.worked.refused) input h.refused_is,
      );
      calls = λ e there. subst (λ (bs : List ℕ). IsCallIn n back.pass.seen bs kinds e) input
          (calls_in_input n endpoint.bytes kinds pass back.pass fresh.calls (among_in_input n endpoint.bytes kinds drawn.drawn pass back.pass drawn.later) e there);
      in_table = subst (λ (made : List Happened). IsInTable n back.pass.seen made back.worked)
          (sym (h.in_table.1.calls ∙ ap (λ (xs : List Happened). xs ++ h.in_table.0) fresh.calls)) h.in_table.2;
    }

-- ---- the thread that reads, before and after workers were started
-- what it is once it reads: nothing was called, put or read, and these stakes and this number of parts were given away; nothing
-- else was, where they are as many as were asked for
pub record IsLast {O G : Type 0} (table : Numbers O) (queue : TableId) (bytes : List ℕ) (kinds : Kinds) (given : List ℕ) (lent : ℕ) (caller : Caller O G) : Type 0 where
  pub table_is : caller.own.table.now ≡ table
  pub pass : IsPassOf table caller.own.pass
  pub calls : calls_of caller.own.pass ≡ []
  pub endpoint : caller.own.endpoint ≡ record (reader queue bytes []) { parts = caller.own.endpoint.parts }
  pub kinds_are : caller.own.kinds ≡ kinds
  pub games : caller.games.bytes ≡ bytes
  pub none : caller.games.report.games ≡ 0
  pub some : 1 ≤ caller.own.workers
  pub whole : lent ≡ caller.own.workers → IsAsMuch (caller.own.pass.stake ++ given) caller.begun.value.stake × (caller.own.endpoint.parts + lent ≡ all_parts)

pub last_of : {O G : Type 0} (table : Numbers O) (queue : TableId) (bytes : List ℕ) (kinds : Kinds) (given : List ℕ) (lent : ℕ) (caller : Caller O G) →
    IsCaller table queue bytes kinds given lent caller → IsLast table queue bytes kinds given lent caller
last_of table queue bytes kinds given lent caller h = record {
  table_is = h.table_is;
  pass = h.pass;
  calls = h.calls;
  endpoint = h.endpoint;
  kinds_are = h.kinds_are;
  games = h.games;
  none = h.none;
  some = h.workers.0;
  whole = λ all. (h.stake, h.parts);
}

-- the same of what is equal to it
pub last_as : {O G : Type 0} (table : Numbers O) (queue : TableId) (bytes : List ℕ) (kinds : Kinds) (lent : ℕ) {given other : List ℕ} {caller last : Caller O G} → other ≡ given → last ≡ caller →
    IsLast table queue bytes kinds given lent caller → IsLast table queue bytes kinds other lent last
last_as table queue bytes kinds lent {given = given} {other = other} {caller = caller} {last = last} same is h =
    subst (λ (s : List ℕ). IsLast table queue bytes kinds s lent last) (sym same) (subst (λ (w : Caller _ _). IsLast table queue bytes kinds given lent w) (sym is) h)

-- a part of its endpoint and of its pass went to one more worker
abbrev pub HasLent : {O G : Type 0} → Caller O G → Caller O G → Type 0
HasLent before after = after ≡ record before {
  own = record before.own {
    endpoint = record before.own.endpoint { parts = before.own.endpoint.parts - 1 };
    pass = record before.own.pass { stake = halved before.own.pass.stake };
  };
}

module _ {O G : Type 0} (table : Numbers O) (queue : TableId) (bytes : List ℕ) (kinds : Kinds) (given : List ℕ) (lent : ℕ) (before after : Caller O G)
    (h : IsCaller table queue bytes kinds given lent before) (step : HasLent before after) (still : IsPassOf before.own.table.now after.own.pass) where
  lent_table : after.own.table.now ≡ table
  lent_table = ap (λ (w : Caller O G). w.own.table.now) step ∙ h.table_is

  lent_pass : IsPassOf table after.own.pass
  lent_pass = subst (λ (t : Numbers O). IsPassOf t after.own.pass) h.table_is still

  lent_endpoint : after.own.endpoint ≡ record (reader queue bytes []) { parts = after.own.endpoint.parts }
  lent_endpoint =
      let one : after.own.endpoint ≡ record before.own.endpoint { parts = before.own.endpoint.parts - 1 } = ap (λ (w : Caller O G). w.own.endpoint) step in
      one ∙ ap (λ (v : Knowledge). (let d : Knowledge = record v { parts = before.own.endpoint.parts - 1 } in d)) h.endpoint
      ∙ ap (λ p. (let d : Knowledge = record (reader queue bytes []) { parts = p } in d)) (sym (ap (λ (v : Knowledge). v.parts) one))

  -- the worker was started
  pub caller_more : 1 < before.own.endpoint.parts → IsAsMuch (halved before.own.pass.stake ++ (given ++ half_of before.own.pass.stake)) before.begun.value.stake →
      IsCaller table queue bytes kinds (given ++ half_of before.own.pass.stake) (lent + 1) after
  caller_more some as_much = record {
    table_is = lent_table;
    pass = lent_pass;
    calls = ap (λ (w : Caller O G). calls_of w.own.pass) step ∙ h.calls;
    stake = subst (λ (s : List ℕ). IsAsMuch (s ++ (given ++ half_of before.own.pass.stake)) after.begun.value.stake) (sym (ap (λ (w : Caller O G). w.own.pass.stake) step))
        (subst (λ (s : List ℕ). IsAsMuch (halved before.own.pass.stake ++ (given ++ half_of before.own.pass.stake)) s) (sym (ap (λ (w : Caller O G). w.begun.value.stake) step)) as_much);
    endpoint = lent_endpoint;
    parts = (let p = h.parts in let q : after.own.endpoint.parts ≡ before.own.endpoint.parts - 1 = ap (λ (w : Caller O G). w.own.endpoint.parts) step in omega (arith, p, q, some));
    kinds_are = ap (λ (w : Caller O G). w.own.kinds) step ∙ h.kinds_are;
    games = ap (λ (w : Caller O G). w.games.bytes) step ∙ h.games;
    none = ap (λ (w : Caller O G). w.games.report.games) step ∙ h.none;
    workers = (let w : after.own.workers ≡ before.own.workers = ap (λ (w : Caller O G). w.own.workers) step in
        (subst (λ k. 1 ≤ k) (sym w) h.workers.0, subst (λ k. k ≤ 64) (sym w) h.workers.1));
  }

  -- it was not: then fewer were started than were asked for
  pub last_lost : lent < before.own.workers → IsLast table queue bytes kinds given lent after
  last_lost fewer = record {
    table_is = lent_table;
    pass = lent_pass;
    calls = ap (λ (w : Caller O G). calls_of w.own.pass) step ∙ h.calls;
    endpoint = lent_endpoint;
    kinds_are = ap (λ (w : Caller O G). w.own.kinds) step ∙ h.kinds_are;
    games = ap (λ (w : Caller O G). w.games.bytes) step ∙ h.games;
    none = ap (λ (w : Caller O G). w.games.report.games) step ∙ h.none;
    some = (let w : after.own.workers ≡ before.own.workers = ap (λ (w : Caller O G). w.own.workers) step in subst (λ k. 1 ≤ k) (sym w) h.workers.0);
    whole = λ all. absurd (let w : after.own.workers ≡ before.own.workers = ap (λ (w : Caller O G). w.own.workers) step in omega (arith, all, w, fewer));
  }

-- what is read beside the workers may be joined with what they hand back
pub joinable : {O G : Type 0} (table : Numbers O) (queue : TableId) (bytes : List ℕ) (kinds : Kinds) (given : List ℕ) (started lent : ℕ) (caller : Caller O G) (reading : Reading O G) →
    IsLast table queue bytes kinds given started caller → lent ≡ started → IsReadingOf caller.games.bytes caller.own reading →
    ((started ≡ caller.own.workers → ⊥) → reading.fault ≡ Some fault.Memory) → IsJoinable caller.begun.value.stake given lent reading
joinable table queue bytes kinds given started lent caller reading h same read asked =
    let input : caller.own.endpoint.bytes ≡ bytes = ap (λ (v : Knowledge). v.bytes) h.endpoint in
    record {
      before = caller.own;
      begun = h.calls;
      reading_is = subst (λ (bs : List ℕ). IsReadingOf bs caller.own reading) (h.games ∙ sym input) read;
      endpoint = h.endpoint ∙ ap₂ (λ (q : TableId) (bs : List ℕ). (let d : Knowledge = record (reader q bs []) { parts = caller.own.endpoint.parts } in d)) (sym (ap (λ (v : Knowledge). v.queue) h.endpoint)) (sym input);
      some = h.some;
      whole = λ fine. elim (cases_eq started caller.own.workers) [
        | inl all ↦ (let w = h.whole all in (w.0, subst (λ k. caller.own.endpoint.parts + k ≡ all_parts) (sym same) w.1, same ∙ all))
        | inr other ↦ absurd (fine (asked other))
      ];
    }

-- what a worker promises that was started beside it
pub handle_of : {O G : Type 0} (table : Numbers O) (queue : TableId) (bytes : List ℕ) (kinds : Kinds) (given : List ℕ) (lent : ℕ) (caller : Caller O G)
    (handle : PromisedHandle (Returned O) (BackTo O)) → IsCaller table queue bytes kinds given lent caller → handle.promise.table.now ≡ caller.own.table.now → handle.promise.kinds ≡ caller.own.kinds →
    IsFresh caller.own.table.now caller.own.endpoint.queue caller.own.endpoint.bytes handle.promise.endpoint.value handle.promise.pass.value → IsHandleOf table queue bytes kinds handle
handle_of table queue bytes kinds given lent caller handle h at of fresh = record {
  table_is = at ∙ h.table_is;
  kinds_are = of ∙ h.kinds_are;
  fresh = subst (λ (t : Numbers _). IsFresh t queue bytes handle.promise.endpoint.value handle.promise.pass.value) h.table_is
      (subst (λ (q : TableId). IsFresh caller.own.table.now q bytes handle.promise.endpoint.value handle.promise.pass.value) (ap (λ (v : Knowledge). v.queue) h.endpoint)
      (subst (λ (bs : List ℕ). IsFresh caller.own.table.now caller.own.endpoint.queue bs handle.promise.endpoint.value handle.promise.pass.value) (ap (λ (v : Knowledge). v.bytes) h.endpoint) fresh));
}

-- the promises are of what was read too
pub all_handles : {O G : Type 0} (table : Numbers O) (queue : TableId) (bytes : List ℕ) (kinds : Kinds) (given : List ℕ) (lent : ℕ) (caller : Caller O G) (reading : Reading O G)
    (handles : List (PromisedHandle (Returned O) (BackTo O))) → IsLast table queue bytes kinds given lent caller → IsReadingOf caller.games.bytes caller.own reading →
    All (IsHandleOf table queue bytes kinds) handles → All (IsHandleOf reading.own.table.now reading.own.endpoint.queue reading.own.endpoint.bytes reading.own.kinds) handles
all_handles table queue bytes kinds given lent caller reading handles h read all =
    let own = reading.own in
    let t : own.table.now ≡ table = ap (λ (w : Worker _ _). w.table.now) read.own_is ∙ h.table_is in
    let q : own.endpoint.queue ≡ queue = ap (λ (w : Worker _ _). w.endpoint.queue) read.own_is ∙ ap (λ (v : Knowledge). v.queue) h.endpoint in
    let b : own.endpoint.bytes ≡ bytes = ap (λ (w : Worker _ _). w.endpoint.bytes) read.own_is ∙ ap (λ (v : Knowledge). v.bytes) h.endpoint in
    let k : own.kinds ≡ kinds = ap (λ (w : Worker _ _). w.kinds) read.own_is ∙ h.kinds_are in
    subst (λ (x : Numbers _). All (IsHandleOf x own.endpoint.queue own.endpoint.bytes own.kinds) handles) (sym t)
    (subst (λ (x : TableId). All (IsHandleOf table x own.endpoint.bytes own.kinds) handles) (sym q)
    (subst (λ (x : List ℕ). All (IsHandleOf table queue x own.kinds) handles) (sym b)
    (subst (λ x. All (IsHandleOf table queue bytes x) handles) (sym k) all)))
