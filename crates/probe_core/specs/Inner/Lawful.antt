-- Definitions that private contracts alone use, beside those of `Lawful`.
use Rattle.std.specs.Prelude.{◌≡◌, ℕ, ◌^◌, ◌<◌, ◌≤◌, Some, slice_get}
use Rattle.probe_core.specs.Placing.{IsOrderly}
use Rattle.probe_core.specs.Showing.{table_of}
use Rattle.probe_core.specs.Way.{IsOnWay}
use Rattle.probe_core.specs.History.{IsLegal, content}
use Rattle.probe_core.specs.declared.halls.Hall.{Hall}
use Rattle.probe_core.specs.World.{World, Running, history_of}
use Rattle.probe_core.specs.Inner.Hall.{world_of, IsFitted}
use Rattle.probe_core.specs.Lawful.{AreTimed, AreRising}

-- each call under way is on its way over the words, and began before the count of events
abbrev pub AreOnWay : ℕ → (ℕ → ℕ → ℕ) → World → Type 0
AreOnWay n place world =
    (caller : ℕ) (running : Running) → slice_get world.callers caller ≡ Some (Some running) →
    IsOnWay n place world.words running.machine × (running.since < world.events)

-- what keeps a world lawful from event to event
pub record IsSound (n : ℕ) (place : ℕ → ℕ → ℕ) (world : World) : Type 0 where
  pub orderly : IsOrderly n place world.words
  pub legal : IsLegal n (history_of world.finished)
  pub shown : content n (history_of world.finished) ≡ table_of world.words
  pub timed : AreTimed world.events world.finished
  pub rising : AreRising world.finished
  pub on_way : AreOnWay n place world

-- what every hall of a world is: fitted and sound, with at most 2^62 events
pub record IsHeld {O : Type 0} (exponent : O → ℕ) (place_of : O → ℕ → ℕ → ℕ) (hall : Hall O) : Type 0 where
  pub fitted : IsFitted exponent hall
  pub sound : IsSound (2 ^ exponent hall.order) (place_of hall.order) (world_of hall)
  pub few : hall.events ≤ 2 ^ 62
