-- Rising numbers, and queued jobs, at their ends.
use Rattle.std.proofs.Common.{◌≡◌, ℕ, suc, ◌≤◌, List, [], ◌∷◌, ◌++◌, refl, arith}
use Rattle.job_core.specs.declared.items.Item.{Item}
use Rattle.job_core.specs.declared.items.Item.TheVariants.{Job, End}
use Rattle.game_core.specs.Games.{WrittenGame}
use Rattle.job_core.specs.Rising.{Rising, past}
use Rattle.job_core.specs.Queue.{Queued}

pub rising_up : (low : ℕ) (games : List ℕ) (high higher : ℕ) → high ≤ higher → Rising low games high → Rising low games higher
rising_up low [] high higher up r = omega arith
rising_up low (game ∷ games) high higher up r = (r.0, rising_up (suc game) games high higher up r.1)

pub rising_on : (low : ℕ) (games : List ℕ) (high game : ℕ) → high ≤ game → Rising low games high → Rising low (games ++ game ∷ []) (suc game)
rising_on low [] high game up r = (omega arith, omega arith)
rising_on low (g ∷ games) high game up r = (r.0, rising_on (suc g) games high game up r.1)

pub past_on : (games : List ℕ) (game : ℕ) → past (games ++ game ∷ []) ≡ suc game
past_on [] game = refl
past_on (g ∷ []) game = refl
past_on (g ∷ next ∷ games) game = past_on (next ∷ games) game

-- rising numbers rise from a lower number on
pub rising_down : (lower low : ℕ) (games : List ℕ) (high : ℕ) → lower ≤ low → Rising low games high → Rising lower games high
rising_down lower low [] high down r = omega arith
rising_down lower low (game ∷ games) high down r = (omega arith, r.1)

-- the end of rising numbers rises, from its front on
pub rising_end : (low high : ℕ) (before after : List ℕ) → Rising low (before ++ after) high → Rising (past before) after high
rising_end low high [] after r = rising_down 0 low after high (omega arith) r
rising_end low high (game ∷ []) after r = r.1
rising_end low high (game ∷ next ∷ before) after r = rising_end (suc game) high (next ∷ before) after r.1

pub queued_job : (bytes : List ℕ) (low : ℕ) (items : List Item) (high : ℕ) (job : WrittenGame) → job.bytes ≡ bytes → high ≤ job.game → Queued bytes low items high → Queued bytes low (items ++ Job job ∷ []) (suc job.game)
queued_job bytes low [] high job same up q = (same, omega arith, omega arith)
queued_job bytes low (Job j ∷ items) high job same up q = (q.0, q.1, queued_job bytes (suc j.game) items high job same up q.2)
queued_job bytes low (End ∷ items) high job same up q = queued_job bytes low items high job same up q

pub queued_end : (bytes : List ℕ) (low : ℕ) (items : List Item) (high : ℕ) → Queued bytes low items high → Queued bytes low (items ++ End ∷ []) high
queued_end bytes low [] high q = q
queued_end bytes low (Job j ∷ items) high q = (q.0, q.1, queued_end bytes (suc j.game) items high q.2)
queued_end bytes low (End ∷ items) high q = queued_end bytes low items high q
