-- What one thread has drawn and counted.
use Rattle.std.specs.Prelude.{◌≡◌, ℕ, List, ◌++◌, Result, IfOk, IfErr}
use Rattle.gather_core.specs.Shares.{Held}
use Rattle.harvest_faults.specs.declared.faults.HarvestFault.{HarvestFault}
use Rattle.harvest_faults.specs.declared.faults.HarvestFault.TheVariants as fault
use Rattle.harvest_core.specs.Working.{IsOfInput}
use Rattle.harvest_core.specs.declared.workers.Shared.{Shared}
use Rattle.harvest_core.specs.declared.workers.Worker.{Worker}

-- a share is of the input's games of these numbers, in this order
pub record IsShareOfGames (shared : Shared) (games : List ℕ) (share : Held) : Type 0 where
  pub of_input : IsOfInput shared.bytes.now shared.kinds share
  pub games_are : share.games ≡ games

-- what was counted where these games were to be: they, or memory was refused for one of them
abbrev pub HasCounted : Shared → List ℕ → Result Held HarvestFault → Type 0
HasCounted shared games counted = IfOk counted (IsShareOfGames shared games) × IfErr counted (λ found. found ≡ fault.Memory)

-- a thread has counted some games, and then all that it has drawn
pub record IsAtWork (shared : Shared) (worker : Worker) : Type 0 where
  pub bytes_are : worker.endpoint.bytes ≡ shared.bytes.now
  pub back : List ℕ
  pub counted : HasCounted shared (back ++ worker.endpoint.drawn) worker.counted

-- a thread has drawn on, put ends, and counted what it has drawn
pub record GoesOn (shared : Shared) (before after : Worker) : Type 0 where
  pub endpoint : after.endpoint ≡ record before.endpoint { drawn = after.endpoint.drawn; ends_put = after.endpoint.ends_put; ends_drawn = after.endpoint.ends_drawn }
  pub counted : (back : List ℕ) → HasCounted shared (back ++ before.endpoint.drawn) before.counted → HasCounted shared (back ++ after.endpoint.drawn) after.counted
