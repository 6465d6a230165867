-- Definitions that private contracts alone use, beside those of `Checking`.
use Rattle.std.specs.Prelude.{◌≡◌, ℕ, ◌≤◌, if◌then◌else◌, List, Option, Some, None, Contains}
use Rattle.slot_table.specs.declared.entries.Happened.{Happened}
use Rattle.gather_core.specs.declared.rows.Row.{Row}
use Rattle.harvest_faults.specs.declared.faults.HarvestFault.{HarvestFault}
use Rattle.harvest_faults.specs.declared.faults.HarvestFault.TheVariants as fault
use Rattle.table_shares.specs.Checking.{is_shape, stranger_in, IsStranger}

-- why rows are not those of a table
abbrev pub IsStandFault : ℕ → List Happened → List Row → HarvestFault → Type 0
IsStandFault n seen rows (fault.Stranger number of_share of_table) = IsStranger n seen rows number of_share of_table
IsStandFault n seen rows found = ⊥

-- a pattern, if it is another one than this
abbrev pub unlike_of : ℕ → Option ℕ → Option ℕ
unlike_of shape found = if is_shape found shape then None else Some shape

-- a row is of a number that a table of n does not have, and no other one is of a lesser such number
abbrev pub IsBeyondFault : ℕ → List Row → HarvestFault → Type 0
IsBeyondFault slots rows (fault.Stranger number of_share None) = (slots ≤ number) × (of_share ≡ stranger_in rows number None)
    × ((word : ℕ) × (of_share ≡ Some word)) × ((row : Row) → Contains rows row → slots ≤ row.number → number ≤ row.number)
IsBeyondFault slots rows found = ⊥
