-- The world that the parts of a hall show.
use Rattle.std.specs.Prelude.{◌≡◌, ℕ, ◌+◌, ◌≤◌, ◌^◌, Bool, true, false, List, length, Option, Some, None, map, slice_get, count_by, vec_len, vec_capacity}
use Rattle.probe_core.specs.declared.events.Event.{Event}
use Rattle.probe_core.specs.declared.events.Event.TheVariants as event
use Rattle.probe_core.specs.declared.halls.UnderWay.{UnderWay}
use Rattle.probe_core.specs.declared.halls.Hall.{Hall}
use Rattle.probe_core.specs.World.{World, Running}

-- a call under way, without the order that it probes in
abbrev pub call_of : {O : Type 0} → UnderWay O → Running
call_of call = record { machine = call.probe.machine; since = call.since }

-- the same of a caller
abbrev pub running_of : {O : Type 0} → Option (UnderWay O) → Option Running
running_of None = None
running_of (Some call) = Some (call_of call)

-- the words, the callers, the finished calls and the count of events
abbrev pub world_of : {O : Type 0} → Hall O → World
world_of hall = record {
  words = hall.words.items;
  callers = map running_of hall.callers.items;
  finished = hall.finished.items;
  events = hall.events;
}

-- a hall has a word for each slot of its order, and each call under way probes in that order
pub record IsFitted {O : Type 0} (exponent : O → ℕ) (hall : Hall O) : Type 0 where
  pub whole : length hall.words.items ≡ 2 ^ exponent hall.order
  pub ordered : (caller : ℕ) (call : UnderWay O) → slice_get hall.callers.items caller ≡ Some (Some call) → call.probe.order ≡ hall.order

-- an event that may end a call
abbrev pub is_step : Event → Bool
is_step (event.Begin caller call) = false
is_step (event.Step caller) = true

-- the finished calls have room for as many more as these events can end
abbrev pub HasRoom : {O : Type 0} → Hall O → List Event → Type 0
HasRoom hall events = vec_len hall.finished + count_by is_step events ≤ vec_capacity hall.finished
