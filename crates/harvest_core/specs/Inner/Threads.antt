-- What the workers beside the thread that reads work with, what comes back from them, and what all threads have counted.
use Rattle.std.specs.Prelude.{◌≡◌, ℕ, ◌+◌, ◌≤◌, List, [], ◌++◌, length, All}
use Rattle.std.specs.List.{AllByRecursion}
use Rattle.shape_core.specs.declared.words.Kinds.{Kinds}
use Rattle.game_core.specs.Games.{HasReadAll}
use Rattle.job_core.specs.Which.{id_of}
use Rattle.job_core.specs.Rule.{reader, worker, all_parts}
use Rattle.job_core.specs.declared.knowledge.Knowledge.{Knowledge}
use Rattle.gather_core.specs.Shares.{Held}
use Rattle.gather_core.specs.Covering.{all_games, Covers}
use Rattle.harvest_core.specs.Working.{IsOfInput}
use Rattle.harvest_core.specs.declared.reading.Reading.{Reading}
use Rattle.harvest_core.specs.declared.threads.ThreadCounts.{ThreadCounts}
use Rattle.harvest_core.specs.declared.threads.Seat.{Seat}
use Rattle.harvest_core.specs.declared.workers.Shared.{Shared}
use Rattle.harvest_core.specs.declared.workers.Worker.{Worker}
use Rattle.harvest_core.specs.Inner.Working.{HasCounted}
use Rattle.harvest_core.specs.Inner.Dealt.{IsReadingOf}

-- the endpoint of the thread that reads, with this number of parts, which has put nothing
abbrev pub reader_of : Shared → ℕ → Knowledge
reader_of shared parts = record (reader (id_of shared.queue.now) shared.bytes.now []) { parts = parts }

-- a worker's endpoint has drawn nothing
abbrev pub IsFresh : Shared → Seat → Type 0
IsFresh shared seat = seat.endpoint ≡ worker (id_of shared.queue.now) shared.bytes.now []

-- what a worker hands back: it counted what it drew
pub record IsBackOf (shared : Shared) (back : Worker) : Type 0 where
  pub endpoint : back.endpoint ≡ record (worker (id_of shared.queue.now) shared.bytes.now []) {
    drawn = back.endpoint.drawn;
    ends_put = back.endpoint.ends_put;
    ends_drawn = back.endpoint.ends_drawn;
  }
  pub counted : HasCounted shared back.endpoint.drawn back.counted

-- an endpoint, which was this before, has taken up those of some workers, which have these shares, and these are left
pub record HasTaken (shared : Shared) (before : Knowledge) (many : ℕ) (left : List Worker) (own : Knowledge) (shares : List Held) : Type 0 where
  pub own_is : own ≡ record before { parts = own.parts; taken = own.taken; ends_drawn = own.ends_drawn }
  pub queue_is : before.queue ≡ id_of shared.queue.now
  pub parts : own.parts + length left ≡ before.parts + many
  pub ends : before.ends_drawn ≤ own.ends_drawn
  pub taken : own.taken ≡ before.taken ++ all_games shares
  pub shares_are : All (IsOfInput shared.bytes.now shared.kinds) shares
  pub back : AllByRecursion (IsBackOf shared) left

-- the thread that reads has worked beside this number of workers
pub record IsJoinable (shared : Shared) (many : ℕ) (reading : Reading) : Type 0 where
  pub parts : ℕ
  pub all : parts + many ≡ all_parts
  pub reading_is : IsReadingOf shared (reader_of shared parts) reading

-- all games of the input were counted, each in one share
pub record AreThreadCounts (bytes : List ℕ) (kinds : Kinds) (counts : ThreadCounts) : Type 0 where
  pub shares : All (IsOfInput bytes kinds) counts.shares.items
  pub report : HasReadAll bytes counts.report
  pub covers : Covers counts.report.games (all_games counts.shares.items)
