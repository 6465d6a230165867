-- The rule of the queue of jobs: what is queued, what all passes know, and that nothing is lost.
use Rattle.std.specs.Prelude.{◌≡◌, ◌⊎◌, ℕ, ◌+◌, ◌<◌, ◌≤◌, suc, true, false, List, [], ◌∷◌, ◌++◌, sum_by}
use mathlib.Core.Option.{some}
use lib.ListN.{get_elem?}
use Rattle.job_core.specs.declared.items.Item.{Item}
use Rattle.job_core.specs.declared.items.Item.TheVariants.{Job, End}
use Rattle.job_core.specs.declared.knowledge.Knowledge.{Knowledge}
use Rattle.job_core.specs.Rising.{Rising, past}
use Rattle.job_core.specs.Times.{times_of}
use Rattle.job_core.specs.Rule.{blank, all_parts}

-- each queued job holds the input, their games rise from `low` on, and each is below `high`
abbrev pub Queued : List ℕ → ℕ → List Item → ℕ → Type 0
Queued bytes low [] high = low ≤ high
Queued bytes low (Job job ∷ items) high =
    (job.bytes ≡ bytes) × (low ≤ job.game) × Queued bytes (suc job.game) items high
Queued bytes low (End ∷ items) high = Queued bytes low items high

-- the games of the jobs among these, in their order
abbrev pub games_in : List Item → List ℕ
games_in [] = []
games_in (Job job ∷ items) = job.game ∷ games_in items
games_in (End ∷ items) = games_in items

-- how many of these are ends
abbrev pub ends_in : List Item → ℕ
ends_in [] = 0
ends_in (Job job ∷ items) = ends_in items
ends_in (End ∷ items) = ends_in items + 1

-- no job comes after an end
abbrev pub JobsFirst : List Item → Type 0
JobsFirst [] = Unit {0}
JobsFirst (Job job ∷ items) = JobsFirst items
JobsFirst (End ∷ items) = (games_in items ≡ []) × JobsFirst items

-- all games that a pass drew, itself and by those that it took up
abbrev pub all_drawn : Knowledge → List ℕ
all_drawn v = v.drawn ++ v.taken

-- how often a pass put a game
abbrev pub times_put : ℕ → Knowledge → ℕ
times_put game v = times_of v.put game

-- how often a pass drew a game, itself and by those that it took up
abbrev pub times_drawn : ℕ → Knowledge → ℕ
times_drawn game v = times_of (all_drawn v) game

-- what each pass knows: where it has a part, it names the input; it drew rising games below `low`; one pass alone puts,
-- and knows what was put; and where it has no part, it put and drew nothing
pub record Fits (bytes : List ℕ) (low writer : ℕ) (put : List ℕ) (port : ℕ) (v : Knowledge) : Type 0 where
  pub named : 0 < v.parts → v.named ≡ true
  pub bytes_are : 0 < v.parts → v.bytes ≡ bytes
  pub rises : Rising 0 v.drawn low
  pub writes : v.writes ≡ true → (port ≡ writer) × (v.put ≡ put)
  pub draws : v.writes ≡ false → (v.put ≡ []) × (v.ends_put ≡ 0)
  pub spent : v.parts ≡ 0 → (v.writes ≡ false) × (v.drawn ≡ []) × (v.taken ≡ []) × (v.ends_drawn ≡ 0)

-- nothing is lost: the parts of all passes are all parts; each game was put, by all passes together, as often as it was
-- drawn and is queued, and so for ends; and jobs come before ends, so that once an end was drawn no job is queued
pub record LosesNothing (items : List Item) (views : List Knowledge) : Type 0 where
  pub parts : sum_by (λ (v : Knowledge). v.parts) views ≡ all_parts
  pub games : (game : ℕ) → sum_by (times_put game) views
      ≡ sum_by (times_drawn game) views + times_of (games_in items) game
  pub ends : sum_by (λ (v : Knowledge). v.ends_put) views ≡ sum_by (λ (v : Knowledge). v.ends_drawn) views + ends_in items
  pub jobs_first : JobsFirst items
  pub ended : 0 < sum_by (λ (v : Knowledge). v.ends_drawn) views → games_in items ≡ []

-- the queued games rise, each is above every game drawn, and none is above the last put; and nothing is lost
pub record Keeps (items : List Item) (views : List Knowledge) : Type 0 where
  pub bytes : List ℕ
  pub low : ℕ
  pub writer : ℕ
  pub put : List ℕ
  pub queued : Queued bytes low items (past put)
  pub fits : (port : ℕ) (v : Knowledge) → get_elem? views port ≡ some v → Fits bytes low writer put port v
  pub whole : LosesNothing items views

-- the rule: the queue is new and its one pass names no input, or it keeps its order and loses nothing
abbrev pub Holds : List Item → List Knowledge → Type 0
Holds items views = ((items ≡ []) × (views ≡ blank ∷ [])) ⊎ Keeps items views
