-- What the reader of games has read, and what a step of it does.
use Rattle.std.specs.Prelude.{◌≡◌, ℕ, ◌+◌, ◌≤◌, Bool, List, Option, None}
use Rattle.game_core.specs.declared.faults.GamesFault.{GamesFault}
use Rattle.game_core.specs.declared.reports.Report.{Report}
use Rattle.game_core.specs.Games.{WrittenGame, HasReadAll}
use Rattle.game_core.specs.Faults.{IsNextFault}
use Rattle.sgf_core.specs.Limit.{most_bytes}

-- an input, the place up to which its trees were read, what these are, the fault that was met, and whether no tree was left
pub record Reading : Type 0 where
  pub bytes : List ℕ
  pub from : ℕ
  pub report : Report
  pub fault : Option GamesFault
  pub ended : Bool

-- the game that was next: its tree begins where the trees before it end, or later, and the trees are read to its end
pub record IsNextGame (before after : Reading) (job : WrittenGame) : Type 0 where
  pub bytes : job.bytes ≡ before.bytes
  pub game : job.game ≡ before.report.games
  pub counted : after.report.games ≡ before.report.games + 1
  pub few : after.report.games ≤ most_bytes
  pub begins : before.from ≤ job.at
  pub ends : after.from ≡ job.end
  pub no_fault : after.fault ≡ None

-- no game was left
pub record HasNoGame (before after : Reading) : Type 0 where
  pub all : HasReadAll after.bytes after.report
  pub games : after.report.games ≡ before.report.games
  pub no_fault : after.fault ≡ None

-- reading stopped: the trees were read up to the one with which the fault comes, and none of them was a game
pub record IsStopped (before after : Reading) (found : GamesFault) : Type 0 where
  pub games : after.report.games ≡ before.report.games
  pub forward : before.from ≤ after.from
  pub here : IsNextFault after.bytes after.from found
