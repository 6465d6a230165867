-- Which games a thread that reads has dealt out.
use Rattle.std.specs.Prelude.{◌≡◌, ℕ, nat_lt, if◌then◌else◌, List, ◌++◌, None, IfNone, IfSome}
use Rattle.slot_table.specs.Passes.{IsPassOf}
use Rattle.game_core.specs.Games.{HasReadAll}
use Rattle.gather_core.specs.Covering.{times_of}
use Rattle.harvest_core.specs.Harvest.{IsCountRefused}
use Rattle.table_harvest.specs.declared.reading.Reading.{Reading}
use Rattle.table_harvest.specs.declared.workers.Worker.{Worker}
use Rattle.table_harvest.specs.declared.working.Worked.{Worked}
use Rattle.table_harvest.specs.InTable.{IsInTableSince}
use Rattle.table_harvest.specs.Working.{CallsIn}
use Rattle.table_harvest.specs.Inner.Working.{IsWorkOf}

-- each game below this number is in the list once, and no other
abbrev pub IsOnceEach : ℕ → List ℕ → Type 0
IsOnceEach high games = (game : ℕ) → times_of games game ≡ (if nat_lt game high then 1 else 0)

-- unless a game was refused here, each game below this number was dealt out once, and no other: it was put into the queue, or
-- it is in the share of the thread that reads
abbrev pub AreDealt : ℕ → List ℕ → Worked → Type 0
AreDealt high put worked = worked.refused ≡ None → IsOnceEach high (put ++ worked.share.games)

-- what the thread that reads has come to, which had this endpoint and pass before
pub record IsReadingOf {O G : Type 0} (bytes : List ℕ) (before : Worker O G) (reading : Reading O G) : Type 0 where
  pub own_is : reading.own ≡ record before {
    endpoint = record before.endpoint { put = reading.own.endpoint.put; ends_put = reading.own.endpoint.ends_put };
    pass = reading.own.pass;
  }
  pub pass : IsPassOf before.table.now reading.own.pass
  pub number : reading.worked.share.worker ≡ 0
  pub worked_is : IsWorkOf bytes before.kinds reading.worked
  pub calls : CallsIn before.table.now.slots bytes before.kinds before.pass reading.own.pass
  pub table : IsInTableSince before.table.now.slots before.pass reading.own.pass reading.worked
  pub all : IfNone reading.fault (HasReadAll bytes reading.report)
  pub dealt : IfNone reading.fault (AreDealt reading.report.games reading.own.endpoint.put reading.worked)
  pub fault_is : IfSome reading.fault (IsCountRefused bytes)
