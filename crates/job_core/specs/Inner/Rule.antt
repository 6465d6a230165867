-- Definitions that private contracts alone use, beside those of `Rule`.
use Rattle.std.specs.Prelude.{◌≡◌, ℕ, ◌<◌, ◌≤◌, true, Option}
use Rattle.crossbeam_queue.specs.declared.array_queue.Doing.{Doing}
use Rattle.crossbeam_queue.specs.declared.array_queue.Slotted.{Slotted}
use Rattle.crossbeam_queue.specs.Passes.{Pass, view, IsPassOf}
use Rattle.job_core.specs.declared.items.Item.{Item}
use Rattle.job_core.specs.declared.knowledge.Knowledge.{Knowledge}
use Rattle.game_core.specs.Reading.{Reading}
use Rattle.job_core.specs.Rising.{past}
use Rattle.job_core.specs.Which.{id_of}
use Rattle.job_core.specs.Queue.{times_put, times_drawn}

-- what a pass knows
abbrev pub knowledge_of : Pass Item Knowledge → Knowledge
knowledge_of pass = view pass

-- a pass that is at an endpoint of this queue: it names the queue and an input, and has a part
pub record IsAtEndpoint {Q A : Type 0} (queue : Slotted (Option Item) (Doing Item Knowledge) Q A) (pass : Pass Item Knowledge)
    : Type 0 where
  pub of : IsPassOf queue pass
  pub named : (knowledge_of pass).named ≡ true
  pub queue_is : (knowledge_of pass).queue ≡ id_of queue
  pub some : 0 < (knowledge_of pass).parts

-- the reader's endpoint and its games go together: the job of the game that is next may be put
abbrev pub IsInStep : Reading → Knowledge → Type 0
IsInStep reading v = (v.writes ≡ true) × (reading.bytes ≡ v.bytes) × (past v.put ≤ reading.report.games)
    × (v.ends_put ≡ 0)

-- what a pass with all parts knows of all passes: each game was drawn at most as often as it was put, and just as often
-- once an end was drawn; and no more ends were drawn than put
pub record IsSettled (v : Knowledge) : Type 0 where
  pub no_more : (game : ℕ) → times_drawn game v ≤ times_put game v
  pub all : 0 < v.ends_drawn → (game : ℕ) → times_put game v ≡ times_drawn game v
  pub ends : v.ends_drawn ≤ v.ends_put
