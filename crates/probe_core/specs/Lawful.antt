-- What is true of every world, and of the calls that end while events are run.
use Rattle.std.specs.Prelude.{◌≡◌, ℕ, ◌-◌, ◌<◌, ◌≤◌, List, ◌++◌, length, Some, slice_get}
use Rattle.probe_core.specs.declared.events.Event.{Event}
use Rattle.probe_core.specs.declared.events.Event.TheVariants as event
use Rattle.probe_core.specs.declared.events.Finished.{Finished}
use Rattle.probe_core.specs.History.{IsLegal, content, AreWordsOf}
use Rattle.probe_core.specs.World.{World, history_of}

-- each call ends after it began, and before the count of events
abbrev pub AreTimed : ℕ → List Finished → Type 0
AreTimed events finished = (k : ℕ) (f : Finished) → slice_get finished k ≡ Some f → (f.begun < f.ended) × (f.ended < events)

-- each call ends before those that come after it
abbrev pub AreRising : List Finished → Type 0
AreRising finished =
    (j k : ℕ) (f g : Finished) → j < k → slice_get finished j ≡ Some f → slice_get finished k ≡ Some g → f.ended < g.ended

-- a world at a table of n places: the history is a legal one, the words are its content, and the calls end in their order
pub record IsLawful (n : ℕ) (world : World) : Type 0 where
  pub whole : length world.words ≡ n
  pub legal : IsLegal n (history_of world.finished)
  pub words : AreWordsOf world.words (content n (history_of world.finished))
  pub timed : AreTimed world.events world.finished
  pub rising : AreRising world.finished

-- a call that ended among these events, of which the first has this number: its last step is one of them, and its Begin
-- too if it is not an earlier event
pub record EndsAmong (first : ℕ) (events : List Event) (f : Finished) : Type 0 where
  pub from : first ≤ f.ended
  pub ended : slice_get events (f.ended - first) ≡ Some (event.Step f.caller)
  pub begun : first ≤ f.begun → slice_get events (f.begun - first) ≡ Some (event.Begin f.caller f.call)

-- finished calls that only grew, by calls that ended among these events
pub record GrowsAmong (first : ℕ) (events : List Event) (old new : List Finished) : Type 0 where
  pub added : List Finished
  pub joined : new ≡ old ++ added
  pub among : (k : ℕ) (f : Finished) → slice_get added k ≡ Some f → EndsAmong first events f
