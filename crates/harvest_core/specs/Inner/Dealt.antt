-- Which games the thread that reads has dealt out, and what it hands back.
use Rattle.std.specs.Prelude.{◌≡◌, ◌⊎◌, ℕ, ◌<◌, nat_lt, if◌then◌else◌, List, ◌++◌, ◌∷◌, [], OnOk, IfErr}
use Rattle.game_core.specs.Games.{WrittenGame, HasReadAll}
use Rattle.game_core.specs.Reading.{Reading as Games}
use Rattle.job_core.specs.Inner.Rule.{IsInStep}
use Rattle.job_core.specs.declared.knowledge.Knowledge.{Knowledge}
use Rattle.job_core.specs.declared.items.Item.TheVariants.{Job}
use Rattle.job_core.specs.Rule.{putting}
use Rattle.gather_core.specs.Covering.{times_of}
use Rattle.harvest_core.specs.declared.reading.Reading.{Reading}
use Rattle.harvest_core.specs.declared.workers.Shared.{Shared}
use Rattle.harvest_core.specs.declared.workers.Worker.{Worker}
use Rattle.harvest_core.specs.Harvest.{IsCountRefused}
use Rattle.harvest_core.specs.Inner.Working.{HasCounted}

-- each game below this number is in the list once, and no other
abbrev pub IsOnceEach : ℕ → List ℕ → Type 0
IsOnceEach high games = (game : ℕ) → times_of games game ≡ (if nat_lt game high then 1 else 0)

-- the game of this number was counted besides
abbrev pub CountsGame : Shared → ℕ → Worker → Worker → Type 0
CountsGame shared game before after = (games : List ℕ) → HasCounted shared games before.counted → HasCounted shared (games ++ game ∷ []) after.counted

-- a job was put, and nothing was counted; or it was not, and its game was counted
abbrev pub IsOffered : Shared → WrittenGame → Worker → Worker → Type 0
IsOffered shared job before after = ((after.endpoint ≡ putting before.endpoint (Job job)) × (after.counted ≡ before.counted))
    ⊎ ((after.endpoint ≡ before.endpoint) × CountsGame shared job.game before after)

-- each game below this number was dealt out once, and no other: it was put into the queue, or it came back and was counted here
pub record IsDealt (shared : Shared) (high : ℕ) (own : Worker) : Type 0 where
  pub back : List ℕ
  pub counted : HasCounted shared back own.counted
  pub once : IsOnceEach high (own.endpoint.put ++ back)

-- the thread that reads has read and drawn nothing
pub record IsNewReader (shared : Shared) (games : Games) (own : Worker) : Type 0 where
  pub step : IsInStep games own.endpoint
  pub none : games.report.games ≡ 0
  pub nothing : (own.endpoint.put ≡ []) × (own.endpoint.drawn ≡ [])
  pub counted : HasCounted shared [] own.counted

-- what the thread that reads hands back, whose endpoint was this before: it counted the games that came back and those that it
-- drew, and drew an end
pub record IsReadingOf (shared : Shared) (before : Knowledge) (reading : Reading) : Type 0 where
  pub endpoint : reading.own.endpoint ≡ record before {
    put = reading.own.endpoint.put;
    drawn = reading.own.endpoint.drawn;
    ends_put = reading.own.endpoint.ends_put;
    ends_drawn = reading.own.endpoint.ends_drawn;
  }
  pub back : List ℕ
  pub counted : HasCounted shared (back ++ reading.own.endpoint.drawn) reading.own.counted
  pub once : IsOnceEach reading.report.games (reading.own.endpoint.put ++ back)
  pub ended : 0 < reading.own.endpoint.ends_drawn
  pub all : OnOk reading.outcome (HasReadAll shared.bytes.now reading.report)
  pub fault_is : IfErr reading.outcome (IsCountRefused shared.bytes.now)
