-- What threads work with, and what comes back from them.
use Rattle.std.specs.Prelude.{◌≡◌, ◌≢◌, ◌⊎◌, ℕ, ◌+◌, ◌≤◌, List, [], ◌∷◌, ◌++◌, length, map, All, Contains, None, Some, IfNone, IfSome}
use Rattle.std.specs.List.{AllByRecursion}
use Rattle.std.specs.declared.thread.PromisedHandle.{PromisedHandle}
use Rattle.atomic_table.specs.Seated.{TableId}
use Rattle.shape_core.specs.declared.words.Kinds.{Kinds}
use Rattle.shape_core.specs.Word.{count_from}
use Rattle.slot_table.specs.declared.entries.Happened.{Happened}
use Rattle.slot_table.specs.History.{Keeps}
use Rattle.slot_table.specs.Passes.{Numbers, Known, IsPassOf, calls_of}
use Rattle.slot_table.specs.Stakes.{IsAsMuch}
use Rattle.game_core.specs.Games.{HasReadAll}
use Rattle.job_core.specs.Rule.{reader, worker, all_parts}
use Rattle.job_core.specs.declared.knowledge.Knowledge.{Knowledge}
use Rattle.gather_core.specs.Covering.{all_games, times_of}
use Rattle.harvest_faults.specs.declared.faults.HarvestFault.TheVariants as fault
use Rattle.table_harvest.specs.declared.threads.Caller.{Caller}
use Rattle.table_harvest.specs.declared.threads.BackTo.{BackTo}
use Rattle.table_harvest.specs.declared.reading.Reading.{Reading}
use Rattle.table_harvest.specs.declared.taking.Results.{Results}
use Rattle.table_harvest.specs.declared.workers.Worker.{Worker}
use Rattle.table_harvest.specs.declared.workers.Returned.{Returned}
use Rattle.table_harvest.specs.declared.working.Worked.{Worked}
use Rattle.table_harvest.specs.InTable.{IsInTable, HasItsRows, StandsIn}
use Rattle.table_harvest.specs.Working.{IsCallIn}
use Rattle.table_harvest.specs.Inner.Working.{IsWorkOf}
use Rattle.harvest_core.specs.Harvest.{IsCountRefused}
use Rattle.table_harvest.specs.Inner.Reading.{IsOnceEach, IsReadingOf}
use Rattle.table_harvest.specs.Inner.Parted.{shares_of, refusals_of}

-- ---- before the workers begin
-- a worker's endpoint and pass, of this table, queue and input, which have called and drawn nothing
pub record IsFresh {O : Type 0} (table : Numbers O) (queue : TableId) (bytes : List ℕ) (endpoint : Knowledge) (pass : Known O) : Type 0 where
  pub is_of : IsPassOf table pass
  pub calls : calls_of pass ≡ []
  pub endpoint_is : endpoint ≡ worker queue bytes []

-- the thread that reads works for this table, queue and input, and has called and read nothing; it has given these stakes and
-- this number of parts away
pub record IsCaller {O G : Type 0} (table : Numbers O) (queue : TableId) (bytes : List ℕ) (kinds : Kinds) (given : List ℕ) (lent : ℕ) (caller : Caller O G) : Type 0 where
  pub table_is : caller.own.table.now ≡ table
  pub pass : IsPassOf table caller.own.pass
  pub calls : calls_of caller.own.pass ≡ []
  pub stake : IsAsMuch (caller.own.pass.stake ++ given) caller.begun.value.stake
  pub endpoint : caller.own.endpoint ≡ record (reader queue bytes []) { parts = caller.own.endpoint.parts }
  pub parts : caller.own.endpoint.parts + lent ≡ all_parts
  pub kinds_are : caller.own.kinds ≡ kinds
  pub games : caller.games.bytes ≡ bytes
  pub none : caller.games.report.games ≡ 0
  pub workers : (1 ≤ caller.own.workers) × (caller.own.workers ≤ 64)

-- the return of a worker of this table, queue and input is promised, whose endpoint and pass were fresh
pub record IsHandleOf {O : Type 0} (table : Numbers O) (queue : TableId) (bytes : List ℕ) (kinds : Kinds) (handle : PromisedHandle (Returned O) (BackTo O)) : Type 0 where
  pub table_is : handle.promise.table.now ≡ table
  pub kinds_are : handle.promise.kinds ≡ kinds
  pub fresh : IsFresh table queue bytes handle.promise.endpoint.value handle.promise.pass.value

-- the stakes that were given away, in order
abbrev pub stakes_of : {O : Type 0} → List (PromisedHandle (Returned O) (BackTo O)) → List ℕ
stakes_of [] = []
stakes_of (handle ∷ handles) = handle.promise.pass.value.stake ++ stakes_of handles

-- the numbers of the workers that have promised to return, in order
abbrev pub promised_of : {O : Type 0} → List (PromisedHandle (Returned O) (BackTo O)) → List ℕ
promised_of [] = []
promised_of (handle ∷ handles) = handle.promise.number ∷ promised_of handles

-- ---- once they came back
-- what a worker of this table, queue and input hands back, which had called and drawn nothing before
pub record IsBackOf {O : Type 0} (table : Numbers O) (queue : TableId) (bytes : List ℕ) (kinds : Kinds) (back : Returned O) : Type 0 where
  pub pass : IsPassOf table back.pass
  pub endpoint : back.endpoint ≡ record (worker queue bytes []) { drawn = back.endpoint.drawn; ends_drawn = 1 }
  pub rest : List ℕ
  pub drawn : back.endpoint.drawn ≡ back.worked.share.games ++ rest
  pub whole : back.worked.refused ≡ None → rest ≡ []
  pub worked_is : IsWorkOf bytes kinds back.worked
  pub calls : (e : Happened) → Contains (calls_of back.pass) e → IsCallIn table.slots back.pass.seen bytes kinds e
  pub in_table : IsInTable table.slots back.pass.seen (calls_of back.pass) back.worked

-- the stakes that came back, in order
abbrev pub stakes_back : {O : Type 0} → List (Returned O) → List ℕ
stakes_back [] = []
stakes_back (back ∷ all) = back.pass.stake ++ stakes_back all

-- the numbers of the workers that came back, in order
abbrev pub numbers_back : {O : Type 0} → List (Returned O) → List ℕ
numbers_back [] = []
numbers_back (back ∷ all) = back.worked.share.worker ∷ numbers_back all

-- the numbers of the workers whose shares these are, in order
abbrev pub workers_of : List Worked → List ℕ
workers_of worked = map (λ (one : Worked). one.share.worker) worked

-- a call stands in the rows of one of these, if nothing but a number was refused to it
pub record StandsAmong (worked : List Worked) (e : Happened) : Type 0 where
  pub one : Worked
  pub among : Contains worked one
  pub stands : HasItsRows one.refused → StandsIn one.share.rows e

-- ---- what all threads have come to
-- the pass is of the table, and its calls since it had made these are of the input and stand in the rows of what was counted,
-- which stands in the table
pub record AgreesWithTable {O : Type 0} (table : Numbers O) (bytes : List ℕ) (kinds : Kinds) (earlier : List Happened) (pass : Known O) (worked : List Worked) : Type 0 where
  pub is_of : IsPassOf table pass
  pub calls : (e : Happened) → Contains (calls_of pass) e → Contains earlier e
      ⊎ (IsCallIn table.slots pass.seen bytes kinds e × StandsAmong worked e)
  pub kept : (e : Happened) → Contains earlier e → Contains (calls_of pass) e
  pub in_table : All (IsInTable table.slots pass.seen []) worked

-- the thread that reads has taken back what some workers hand back, and these are left
pub record HasTaken {O G : Type 0} (before : Worker O G) (all left : List (Returned O)) (own : Worker O G) (worked : List Worked) : Type 0 where
  pub own_is : own ≡ record before {
    endpoint = record before.endpoint { parts = own.endpoint.parts; taken = own.endpoint.taken; ends_drawn = own.endpoint.ends_drawn };
    pass = own.pass;
  }
  pub keeps : Keeps before.table.now.slots before.pass.seen own.pass.seen
  pub counted : AgreesWithTable before.table.now before.endpoint.bytes before.kinds (calls_of before.pass) own.pass worked
  pub stake : own.pass.stake ++ stakes_back left ≡ before.pass.stake ++ stakes_back all
  pub parts : own.endpoint.parts + length left ≡ before.endpoint.parts + length all
  pub ends : own.endpoint.ends_drawn + length left ≡ before.endpoint.ends_drawn + length all
  pub taken : refusals_of worked ≡ [] → (game : ℕ) → times_of own.endpoint.taken game ≡ times_of (all_games (shares_of worked)) game
  pub many : length worked + length left ≡ length all
  pub numbers : workers_of worked ++ numbers_back left ≡ numbers_back all
  pub worked_is : All (IsWorkOf before.endpoint.bytes before.kinds) worked
  pub back : AllByRecursion (IsBackOf before.table.now before.endpoint.queue before.endpoint.bytes before.kinds) left

-- the thread that reads has come to this beside workers that promised to return, with these stakes and as many: it had called
-- nothing before it read. Unless memory was refused, these are as many as were asked for, and nothing else was given away
pub record IsJoinable {O G : Type 0} (stake given : List ℕ) (lent : ℕ) (reading : Reading O G) : Type 0 where
  pub before : Worker O G
  pub begun : calls_of before.pass ≡ []
  pub reading_is : IsReadingOf before.endpoint.bytes before reading
  pub endpoint : before.endpoint ≡ record (reader before.endpoint.queue before.endpoint.bytes []) { parts = before.endpoint.parts }
  pub some : 1 ≤ before.workers
  pub whole : reading.fault ≢ Some fault.Memory →
      IsAsMuch (before.pass.stake ++ given) stake × (before.endpoint.parts + lent ≡ all_parts) × (lent ≡ before.workers)

-- the results of all threads, for this table, input and kinds; what their passes had together at the beginning
pub record AreResults {O : Type 0} (table : Numbers O) (bytes : List ℕ) (kinds : Kinds) (stake : List ℕ) (results : Results O) : Type 0 where
  pub worked_is : All (IsWorkOf bytes kinds) results.worked.items
  pub counted : AgreesWithTable table bytes kinds [] results.pass results.worked.items
  pub stake_is : results.fault ≢ Some fault.Memory → IsAsMuch results.pass.stake stake
  pub covers : results.fault ≡ None → refusals_of results.worked.items ≡ [] → IsOnceEach results.report.games (all_games (shares_of results.worked.items))
  pub all : IfNone results.fault (HasReadAll bytes results.report)
  pub fault_is : IfSome results.fault (IsCountRefused bytes)

-- as many workers as were asked for have counted, and the thread that reads: the shares are those of the workers 1, 2 and so
-- on, and the last is that of the thread that reads, 0; or memory was refused
abbrev pub AreAsked : {O : Type 0} → ℕ → Results O → Type 0
AreAsked workers results = (results.fault ≡ Some fault.Memory)
    ⊎ ((length results.worked.items ≡ workers + 1) × (workers_of results.worked.items ≡ count_from 1 workers ++ 0 ∷ []))
