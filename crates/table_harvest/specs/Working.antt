-- What a worker has counted of an input, and why it was refused.
use Rattle.std.specs.Prelude.{◌≡◌, ℕ, ◌+◌, ◌≤◌, ◌^◌, ◌*◌, ◌⊎◌, List, [], ◌∷◌, ◌++◌, length, Contains, Option, Some, None}
use Rattle.go_record.specs.Actions.{Actions}
use Rattle.shape_core.specs.declared.words.Kinds.{Kinds}
use Rattle.job_core.specs.Rising.{Rising, past}
use Rattle.job_core.specs.declared.knowledge.Knowledge.{Knowledge}
use Rattle.gather_core.specs.declared.rows.Row.{Row}
use Rattle.harvest_faults.specs.declared.faults.HarvestFault.{HarvestFault}
use Rattle.harvest_faults.specs.declared.faults.HarvestFault.TheVariants as fault
use Rattle.gather_core.specs.Shares.{Held}
use Rattle.table_shares.specs.Adding.{IsTooLarge, IsKept, IsAddFault}
use Rattle.table_shares.specs.Confirming.{HasShape}
use Rattle.gather_core.specs.Entering.{IsCall, CallsOnly}
use Rattle.probe_core.specs.Sequential.{IsNumber}
use Rattle.slot_table.specs.declared.entries.Happened.{Happened}
use Rattle.slot_table.specs.History.{content_of}
use Rattle.slot_table.specs.Passes.{Numbers, Known, IsPassOf}
use Rattle.table_harvest.specs.declared.workers.Returned.{Returned}
use Rattle.table_harvest.specs.declared.working.Worked.{Worked}
use Rattle.table_harvest.specs.InTable.{IsInTableSince}
use Rattle.harvest_core.specs.Working.{IsGame, IsPatternOfGame, IsPatternIn, IsWorked}

-- a pattern of one of these games of the input
abbrev pub IsPatternAmong : List ℕ → Kinds → List ℕ → ℕ → Type 0
IsPatternAmong bytes kinds games shape = (game : ℕ) × Contains games game × IsPatternOfGame bytes kinds game shape

-- a number has a pattern of the game that was marked there
pub record IsMarkIn (n : ℕ) (seen : List Happened) (bytes : List ℕ) (kinds : Kinds) (number game : ℕ) : Type 0 where
  pub shape : ℕ
  pub pattern : IsPatternOfGame bytes kinds game shape
  pub number_is : IsNumber (content_of n seen) shape number

-- a call enters a pattern of the input, or marks a game of it at the number of a pattern of that game; or it only asks
abbrev pub IsCallIn : ℕ → List Happened → List ℕ → Kinds → Happened → Type 0
IsCallIn n seen bytes kinds e = IsCall (λ key found. IsPatternIn bytes kinds key) (IsMarkIn n seen bytes kinds) e

-- a pass entered patterns of the input alone, and marked games of it at numbers of their own patterns alone
abbrev pub CallsIn : {O : Type 0} → ℕ → List ℕ → Kinds → Known O → Known O → Type 0
CallsIn n bytes kinds before after = CallsOnly n (λ key found. IsPatternIn bytes kinds key) (IsMarkIn n after.seen bytes kinds) before after

-- the same of one game of the input
abbrev pub CallsOfGame : {O : Type 0} → ℕ → List ℕ → Kinds → ℕ → Known O → Known O → Type 0
CallsOfGame n bytes kinds game before after = CallsOnly n (λ key found. IsPatternOfGame bytes kinds game key)
    (λ number marked. (marked ≡ game) × IsMarkIn n after.seen bytes kinds number marked) before after

-- the same of these games of the input
abbrev pub CallsAmong : {O : Type 0} → ℕ → List ℕ → Kinds → List ℕ → Known O → Known O → Type 0
CallsAmong n bytes kinds games before after = CallsOnly n (λ key found. IsPatternAmong bytes kinds games key)
    (λ number game. Contains games game × IsMarkIn n after.seen bytes kinds number game) before after

-- why some game of the input was not added to a share: a pattern of it found no number, memory was refused, or counts are too
-- large
abbrev pub IsRefusal : List ℕ → Kinds → HarvestFault → Type 0
IsRefusal bytes kinds (fault.Full game word) = IsPatternOfGame bytes kinds game word
IsRefusal bytes kinds fault.Memory = Unit {0}
IsRefusal bytes kinds fault.Overflow = (game : ℕ) × (actions : Actions) × IsGame bytes game actions
    × (((share : Held) × IsWorked bytes kinds share × IsTooLarge actions share) ⊎ (2 ^ 64 ≤ 5410 * length actions.actions))
IsRefusal bytes kinds found = ⊥

-- the refusal, if there was one
abbrev pub IsRefused : List ℕ → Kinds → Option HarvestFault → Type 0
IsRefused bytes kinds None = Unit {0}
IsRefused bytes kinds (Some found) = IsRefusal bytes kinds found

-- the game is the share's last, and nothing was refused; or a game was refused before, and nothing changed; or the share's
-- games are as they were, and this one was refused
abbrev pub IsCounted : ℕ → Worked → Worked → Type 0
IsCounted game old new = ((new.share.games ≡ old.share.games ++ game ∷ []) × (old.refused ≡ None) × (new.refused ≡ None))
    ⊎ ((((found : HarvestFault) × (old.refused ≡ Some found)) × (new ≡ old))
    ⊎ ((new.share.games ≡ old.share.games) × (old.refused ≡ None) × ((found : HarvestFault) × (new.refused ≡ Some found))))

-- each row of the new share is of a pattern of the game of this number, or of a pattern of a row of the old share
abbrev pub AreOfGame : List ℕ → Kinds → ℕ → Held → Held → Type 0
AreOfGame bytes kinds game old new = (row : Row) → Contains new.rows row → HasShape old.rows row.shape ⊎ IsPatternOfGame bytes kinds game row.shape

-- the fault is one that `Share::add` gives for the game of this number: what the pass had seen then, and the share before and
-- after
pub record IsRefusedGame (n : ℕ) (seen : List Happened) (bytes : List ℕ) (game : ℕ) (old new : Held) (found : HarvestFault) : Type 0 where
  pub actions : Actions
  pub is_game : IsGame bytes game actions
  pub kept : IsKept n seen actions old new
  pub why : IsAddFault n seen game actions old new found

-- a worker drew these games and one end in one call, and its share has the first of them: all where nothing was refused. Its
-- pass entered patterns of these games alone and marked these games alone, each at numbers of its own patterns; each row of its
-- share is of a pattern of one of them; and where a game was refused, it is the first that the share has not
pub record HasDrawn {O : Type 0} (n : ℕ) (kinds : Kinds) (before after : Known O) (old : Knowledge) (worked : Worked) (new : Knowledge) : Type 0 where
  pub drawn : List ℕ
  pub all : new.drawn ≡ old.drawn ++ drawn
  pub same : new ≡ record old { drawn = new.drawn; ends_drawn = old.ends_drawn + 1 }
  pub rest : List ℕ
  pub first : drawn ≡ worked.share.games ++ rest
  pub whole : worked.refused ≡ None → rest ≡ []
  pub rises : Rising 0 drawn (past drawn)
  pub later : CallsAmong n old.bytes kinds drawn before after
  pub rows : (row : Row) → Contains worked.share.rows row → IsPatternAmong old.bytes kinds drawn row.shape
  pub refusal : (found : HarvestFault) → worked.refused ≡ Some found → (game : ℕ) × (dropped : List ℕ) × (rest ≡ game ∷ dropped)
      × ((share : Held) × IsRefusedGame n after.seen old.bytes game share worked.share found)

-- what a worker's loop hands back, which worked at this table for these kinds under this number, and had this endpoint and this
-- pass before: its pass is of the table, its share is of games of the input, and what it drew, counted and called goes together
pub record IsReturned {O : Type 0} (table : Numbers O) (kinds : Kinds) (number : ℕ) (endpoint : Knowledge) (pass : Known O) (back : Returned O) : Type 0 where
  pub pass_is : IsPassOf table back.pass
  pub number_is : back.worked.share.worker ≡ number
  pub worked_is : IsWorked endpoint.bytes kinds back.worked.share
  pub refused_is : IsRefused endpoint.bytes kinds back.worked.refused
  pub drawn : HasDrawn table.slots kinds pass back.pass endpoint back.worked back.endpoint
  pub in_table : IsInTableSince table.slots pass back.pass back.worked
