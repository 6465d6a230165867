-- Whether a table that had no number for a pattern is full of patterns of rows, and what is wrong where it is not.
use Rattle.std.specs.Prelude.{◌≡◌, ℕ, ◌<◌, ◌⊎◌, List, Option, Contains}
use Rattle.std.specs.Option.{option_map}
use Rattle.probe_core.specs.Sequential.{IsNumber, IsFree}
use Rattle.slot_table.specs.declared.entries.Happened.{Happened}
use Rattle.slot_table.specs.History.{content_of}
use Rattle.gather_core.specs.declared.rows.Row.{Row}
use Rattle.harvest_faults.specs.declared.faults.HarvestFault.{HarvestFault}
use Rattle.harvest_faults.specs.declared.faults.HarvestFault.TheVariants as fault
use Rattle.table_shares.specs.Rows.{row_of}
use Rattle.table_shares.specs.Checking.{shape_at}

-- some row is of this pattern
abbrev pub HasShape : List Row → ℕ → Type 0
HasShape rows shape = (row : Row) × Contains rows row × (row.shape ≡ shape)

-- some row of this number is of this pattern
abbrev pub HasShapeAt : List Row → ℕ → ℕ → Type 0
HasShapeAt rows number shape = (row : Row) × Contains rows row × (row.number ≡ number) × (row.shape ≡ shape)

-- the number has a key, which is the pattern of some row
abbrev pub IsKnown : ℕ → List Happened → List Row → ℕ → Type 0
IsKnown n seen rows number = (key : ℕ) × IsNumber (content_of n seen) key number × HasShape rows key

-- the number has a key, which is the pattern of no row
abbrev pub IsUnknown : ℕ → List Happened → List Row → ℕ → Type 0
IsUnknown n seen rows number = (key : ℕ) × IsNumber (content_of n seen) key number × (HasShape rows key → ⊥)

-- the pattern of the first row of a number, or none
abbrev pub first_shape : List Row → ℕ → Option ℕ
first_shape rows number = option_map (λ row. row.shape) (row_of rows number)

-- a number disproves that the table is full of patterns of rows and that this refused word is of none: it is free, or its key
-- is the pattern of no row, or a row of this number, which may be of a larger table, is of the word. No lesser number does
pub record IsUnconfirmed (n : ℕ) (seen : List Happened) (rows : List Row) (word number : ℕ) (of_share of_table : Option ℕ) : Type 0 where
  pub share : of_share ≡ first_shape rows number
  pub table : of_table ≡ shape_at n seen number
  pub why : IsFree (content_of n seen) number ⊎ (IsUnknown n seen rows number ⊎ HasShapeAt rows number word)
  pub known : (lesser : ℕ) → lesser < number → lesser < n → IsKnown n seen rows lesser
  pub others : (lesser : ℕ) → lesser < number → HasShapeAt rows lesser word → ⊥

-- why a table of n numbers had none for a word of a game: each number has a key that is the pattern of some row, and no row
-- is of the word; or some number disproves that
abbrev pub IsConfirmation : ℕ → List Happened → List Row → ℕ → ℕ → HarvestFault → Type 0
IsConfirmation n seen rows game word (fault.Full at found) = (at ≡ game) × (found ≡ word)
    × ((number : ℕ) → number < n → IsKnown n seen rows number) × (HasShape rows word → ⊥)
IsConfirmation n seen rows game word (fault.Stranger number of_share of_table) =
    IsUnconfirmed n seen rows word number of_share of_table
IsConfirmation n seen rows game word found = ⊥
