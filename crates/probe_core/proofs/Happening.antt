-- What an event does, by its cases.
use Rattle.std.proofs.Common.{◌≡◌, ℕ, List, Option, Some, None, slice_get, slice_set, slice_index_or, refl}
use Rattle.probe_core.specs.declared.calls.Call.{Call}
use Rattle.probe_core.specs.declared.calls.Answer.{Answer}
use Rattle.probe_core.specs.declared.events.Event.{Event}
use Rattle.probe_core.specs.declared.events.Event.TheVariants as event
use Rattle.probe_core.specs.Machine.{Machine, Followed, Runs, Answers, begun, follows, place_in}
use Rattle.probe_core.specs.World.{World, Running, began, settled, stepped, happened, words_after}

-- what follows the next step of a call in a world
abbrev pub next_of : ℕ → (ℕ → ℕ → ℕ) → World → Running → Followed
next_of n place world running =
    follows n running.machine (place_in place running.machine) (slice_index_or world.words (place_in place running.machine) 0)

-- the words after the next step of a call
abbrev pub words_of : (ℕ → ℕ → ℕ) → World → Running → List ℕ
words_of place world running = words_after world.words running.machine (place_in place running.machine)

-- an event changes nothing but the count, or an idle caller begins, or a call goes on, or it ends
pub data Happens (n : ℕ) (place : ℕ → ℕ → ℕ) (world : World) : Event → World → Type 0 where
  Nothing : (e : Event) → Happens n place world e world
  Begins : (caller : ℕ) (asked : Call) → slice_get world.callers caller ≡ Some None
      → Happens n place world (event.Begin caller asked)
      (record world { callers = slice_set world.callers caller (Some (record { machine = begun asked; since = world.events })) })
  GoesOn : (caller : ℕ) (running : Running) (next : Machine) → slice_get world.callers caller ≡ Some (Some running)
      → next_of n place world running ≡ Runs next
      → Happens n place world (event.Step caller) (settled world caller running (words_of place world running) (Runs next))
  Ends : (caller : ℕ) (running : Running) (found : Answer) → slice_get world.callers caller ≡ Some (Some running)
      → next_of n place world running ≡ Answers found
      → Happens n place world (event.Step caller) (settled world caller running (words_of place world running) (Answers found))

begin_happens : (n : ℕ) (place : ℕ → ℕ → ℕ) (world : World) (caller : ℕ) (asked : Call) (found : Option (Option Running))
    → slice_get world.callers caller ≡ found → Happens n place world (event.Begin caller asked) (began world caller asked found)
begin_happens n place world caller asked None e = Nothing (event.Begin caller asked)
begin_happens n place world caller asked (Some None) e = Begins caller asked e
begin_happens n place world caller asked (Some (Some running)) e = Nothing (event.Begin caller asked)

settle_happens : (n : ℕ) (place : ℕ → ℕ → ℕ) (world : World) (caller : ℕ) (running : Running) (followed : Followed)
    → slice_get world.callers caller ≡ Some (Some running) → next_of n place world running ≡ followed
    → Happens n place world (event.Step caller) (settled world caller running (words_of place world running) followed)
settle_happens n place world caller running (Runs next) e f = GoesOn caller running next e f
settle_happens n place world caller running (Answers found) e f = Ends caller running found e f

step_happens : (n : ℕ) (place : ℕ → ℕ → ℕ) (world : World) (caller : ℕ) (found : Option (Option Running))
    → slice_get world.callers caller ≡ found → Happens n place world (event.Step caller) (stepped n place world caller found)
step_happens n place world caller None e = Nothing (event.Step caller)
step_happens n place world caller (Some None) e = Nothing (event.Step caller)
step_happens n place world caller (Some (Some running)) e = settle_happens n place world caller running (next_of n place world running) e refl

pub happens : (n : ℕ) (place : ℕ → ℕ → ℕ) (world : World) (e : Event) → Happens n place world e (happened n place world e)
happens n place world (event.Begin caller asked) = begin_happens n place world caller asked (slice_get world.callers caller) refl
happens n place world (event.Step caller) = step_happens n place world caller (slice_get world.callers caller) refl
