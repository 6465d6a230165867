-- Definitions that private contracts alone use, beside those of `Harvest`.
use Rattle.std.specs.Prelude.{◌≡◌, ℕ, ◌⊎◌, List, [], Contains}
use Rattle.slot_table.specs.declared.entries.Happened.{Happened}
use Rattle.slot_table.specs.Passes.{Known, calls_of}
use Rattle.gather_core.specs.declared.rows.Row.{Row}
use Rattle.harvest_faults.specs.declared.faults.HarvestFault.{HarvestFault}
use Rattle.harvest_faults.specs.declared.faults.HarvestFault.TheVariants as fault
use Rattle.gather_core.specs.Shares.{Held}
use Rattle.gather_core.specs.Gathering.{all_rows}
use Rattle.table_shares.specs.Checking.{Stand}
use Rattle.table_shares.specs.Confirming.{IsConfirmation}
use Rattle.table_shares.specs.GatherFaults.{IsGatherFault}
use Rattle.table_harvest.specs.declared.working.Worked.{Worked}
use Rattle.table_harvest.specs.declared.taking.Results.{Results}
use Rattle.table_harvest.specs.InTable.{AreFirstsMarked, StandsIn}
use Rattle.table_harvest.specs.Inner.Parted.{shares_of, refusals_of, IsWorst}

-- the rows of all shares stand in the table of n numbers after what a pass has seen, their first games are marked, and each call
-- of the pass that is not one of these earlier ones stands in the rows
pub record AreTogether {O : Type 0} (n : ℕ) (earlier : List Happened) (pass : Known O) (rows : List Row) : Type 0 where
  pub stands : Stand n pass.seen rows
  pub marked : AreFirstsMarked pass.seen rows
  pub calls : (e : Happened) → Contains (calls_of pass) e → Contains earlier e ⊎ StandsIn rows e

-- what is reported of a game that was refused: for lack of a number what the shares confirm, and else the same fault
abbrev pub IsExplained : ℕ → List Happened → List Held → HarvestFault → HarvestFault → Type 0
IsExplained n seen shares (fault.Full game word) found = IsConfirmation n seen (all_rows shares) game word found
IsExplained n seen shares refused found = found ≡ refused

-- games were refused, and this is reported of the first refusal
pub record IsFirstTold (n : ℕ) (seen : List Happened) (worked : List Worked) (found : HarvestFault) : Type 0 where
  pub first : HarvestFault
  pub worst : IsWorst (refusals_of worked) first
  pub explained : IsExplained n seen (shares_of worked) first found

-- why all threads give no dictionary, for what a pass had seen before the shares were looked at, and after: memory was refused;
-- or a game was; or none was, and all shares do not go together
abbrev pub IsToldOf : {O : Type 0} → ℕ → Results O → Known O → Known O → HarvestFault → Type 0
IsToldOf n results before after found = (found ≡ fault.Memory) ⊎ (IsFirstTold n after.seen results.worked.items found
    ⊎ ((refusals_of results.worked.items ≡ []) × IsGatherFault n results.report.games (shares_of results.worked.items) before after found))

-- the same, whatever the pass had seen before the shares were looked at
abbrev pub IsTold : {O : Type 0} → ℕ → Results O → Known O → HarvestFault → Type 0
IsTold {O = O} n results after found = (before : Known O) × IsToldOf n results before after found
