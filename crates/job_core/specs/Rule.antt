-- What the passes of the queue know, and how that changes.
use Rattle.std.specs.Prelude.{◌≡◌, ℕ, ◌+◌, ◌-◌, ◌≤◌, suc, true, false, List, [], ◌∷◌, ◌++◌, ⊤}
use Rattle.atomic_table.specs.Seated.{TableId}
use Rattle.job_core.specs.declared.items.Item.{Item}
use Rattle.job_core.specs.declared.items.Item.TheVariants.{Job, End}
use Rattle.job_core.specs.declared.knowledge.Knowledge.{Knowledge}
use Rattle.job_core.specs.Rising.{Rising, past}
use Rattle.job_core.specs.Which.{nowhere}

-- how many parts the passes of a queue have, all together: a pass that has them all knows what every pass put and drew
abbrev pub all_parts : ℕ
all_parts = 1024

-- the pass of a new queue, with all parts, which names no input yet
abbrev pub blank : Knowledge
blank = record {
  queue = nowhere;
  parts = all_parts;
  named = false;
  writes = false;
  bytes = [];
  put = [];
  drawn = [];
  taken = [];
  ends_put = 0;
  ends_drawn = 0;
}

-- a pass without parts: it put and drew nothing, and never will
abbrev pub spent : Knowledge
spent = record blank { parts = 0 }

-- the reader's pass, with all parts, which put the jobs of these games
abbrev pub reader : TableId → List ℕ → List ℕ → Knowledge
reader queue bytes put = record blank { queue = queue; named = true; writes = true; bytes = bytes; put = put }

-- a worker's pass, with one part, which drew the jobs of these games
abbrev pub worker : TableId → List ℕ → List ℕ → Knowledge
worker queue bytes drawn = record blank { queue = queue; parts = 1; named = true; bytes = bytes; drawn = drawn }

-- what a pass knows once it put this
abbrev pub putting : Knowledge → Item → Knowledge
putting v (Job job) = record v { put = v.put ++ job.game ∷ [] }
putting v End = record v { ends_put = v.ends_put + 1 }

-- what a pass knows once it drew this
abbrev pub drawing : Knowledge → Item → Knowledge
drawing v (Job job) = record v { drawn = v.drawn ++ job.game ∷ [] }
drawing v End = record v { ends_drawn = v.ends_drawn + 1 }

-- what a pass knows once it gave a part away
abbrev pub lending : Knowledge → Knowledge
lending v = record v { parts = v.parts - 1 }

-- what a pass knows once it took up another, which put nothing: the parts of both, and what both drew
abbrev pub taking_up : Knowledge → Knowledge → Knowledge
taking_up v w = record v {
  parts = v.parts + w.parts;
  taken = v.taken ++ (w.drawn ++ w.taken);
  ends_drawn = v.ends_drawn + w.ends_drawn;
}

-- a job that is drawn holds the input, and its game is above all that the pass drew
abbrev pub Draws : Knowledge → Item → Type 0
Draws v (Job job) = (job.bytes ≡ v.bytes) × Rising 0 (v.drawn ++ job.game ∷ []) (suc job.game)
Draws v End = ⊤

-- the reader alone puts, jobs before ends: a job of the input whose game is above all that it put, and then ends
abbrev pub MayPut : Knowledge → Item → Type 0
MayPut v (Job job) = (v.writes ≡ true) × (job.bytes ≡ v.bytes) × (past v.put ≤ job.game) × (v.ends_put ≡ 0)
MayPut v End = v.writes ≡ true
