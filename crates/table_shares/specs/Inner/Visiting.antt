-- What is known of rows and a table once the numbers up to some one were looked at.
use Rattle.std.specs.Prelude.{ℕ, List, Option, Some, None}
use Rattle.slot_table.specs.Passes.{Known}
use Rattle.gather_core.specs.declared.rows.Row.{Row}
use Rattle.table_shares.specs.declared.agreeing.Differs.{Differs}
use Rattle.harvest_faults.specs.declared.faults.HarvestFault.TheVariants as fault
use Rattle.table_shares.specs.Agreeing.{AskedFirst, IsMarksFault}
use Rattle.table_shares.specs.Checking.{StandBelow}

-- a pass asked the least games of the numbers below this one, and each answer agreed with the rows; or one differed, and it was
-- the last that was asked
abbrev pub AgreeBelow : {O : Type 0} → ℕ → List Row → ℕ → Known O → Known O → Option Differs → Type 0
AgreeBelow n rows high old new None = AskedFirst n high rows old new
AgreeBelow n rows high old new (Some differs) =
    IsMarksFault n rows old new (fault.Marks differs.number differs.of_shares differs.of_table)

-- the rows of the numbers below this one are of their patterns in the table; and their games agree, or the first that differs
-- is known
pub record AreVisited {O : Type 0} (n : ℕ) (rows : List Row) (high : ℕ) (old new : Known O) (differs : Option Differs) : Type 0 where
  pub stand : StandBelow n new.seen rows high
  pub agree : AgreeBelow n rows high old new differs
