-- A world: the words of a table, its callers, the calls that have ended, and what each event does to them.
use Rattle.std.specs.Prelude.{ℕ, ◌+◌, ◌==◌, ◌&&◌, if◌then◌else◌, List, [], ◌∷◌, ◌++◌, Option, Some, None, slice_get, slice_index_or, slice_set, replicate, map}
use Rattle.probe_core.specs.declared.calls.Call.{Call}
use Rattle.probe_core.specs.declared.events.Event.{Event}
use Rattle.probe_core.specs.declared.events.Event.TheVariants as event
use Rattle.probe_core.specs.declared.events.Finished.{Finished}
use Rattle.probe_core.specs.Machine.{Machine, Followed, Runs, Answers, begun, follows, place_in, key_of, code_of}
use Rattle.probe_core.specs.History.{Answered}

-- a call under way, with the number of the event that began it
pub record Running : Type 0 where
  pub machine : Machine
  pub since : ℕ

-- the words, for each caller nothing or its call, the calls that have ended, and the number of events so far
pub record World : Type 0 where
  pub words : List ℕ
  pub callers : List (Option Running)
  pub finished : List Finished
  pub events : ℕ

-- n free words and this number of idle callers
abbrev pub new_world : ℕ → ℕ → World
new_world n callers = record { words = replicate n 0; callers = replicate callers None; finished = []; events = 0 }

-- an idle caller begins a call
abbrev pub began : World → ℕ → Call → Option (Option Running) → World
began world caller asked (Some None) =
    record world { callers = slice_set world.callers caller (Some (record { machine = begun asked; since = world.events })) }
began world caller asked _ = world

-- the words after the next step of a machine at place p: a swap that finds 0 writes the key's word
abbrev pub words_after : List ℕ → Machine → ℕ → List ℕ
words_after words machine p =
    if machine.swaps && (slice_index_or words p 0 == 0) then slice_set words p (code_of (key_of machine.call)) else words

-- the caller's call goes on, or it ends and joins the finished ones
abbrev pub settled : World → ℕ → Running → List ℕ → Followed → World
settled world caller running words (Runs machine) =
    record world { words = words; callers = slice_set world.callers caller (Some (record { machine = machine; since = running.since })) }
settled world caller running words (Answers found) =
    record world {
      words = words;
      callers = slice_set world.callers caller None;
      finished = world.finished ++ record { caller = caller; call = running.machine.call; answer = found; begun = running.since; ended = world.events } ∷ [];
    }

-- a busy caller takes its next step at a table of n places in this order
abbrev pub stepped : ℕ → (ℕ → ℕ → ℕ) → World → ℕ → Option (Option Running) → World
stepped n place world caller (Some (Some running)) =
    settled world caller running
    (words_after world.words running.machine (place_in place running.machine))
    (follows n running.machine (place_in place running.machine) (slice_index_or world.words (place_in place running.machine) 0))
stepped n place world caller _ = world

-- what an event does, but for the count
abbrev pub happened : ℕ → (ℕ → ℕ → ℕ) → World → Event → World
happened n place world (event.Begin caller asked) = began world caller asked (slice_get world.callers caller)
happened n place world (event.Step caller) = stepped n place world caller (slice_get world.callers caller)

-- one more event
abbrev pub counted : World → World
counted world = record world { events = world.events + 1 }

-- the world after these events
abbrev pub after_events : ℕ → (ℕ → ℕ → ℕ) → World → List Event → World
after_events n place world [] = world
after_events n place world (e ∷ events) = after_events n place (counted (happened n place world e)) events

-- the history that finished calls are, in the order of their last steps
abbrev pub history_of : List Finished → List Answered
history_of finished = map (λ f. record { call = f.call; answer = f.answer }) finished
