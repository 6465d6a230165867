-- The least games of rows against those that a table has marked.
use Rattle.std.specs.Prelude.{◌≡◌, ◌≢◌, ℕ, zero, suc, ◌<◌, List, [], ◌∷◌, ◌++◌, IfSome, Contains}
use Rattle.slot_table.specs.declared.entries.Happened.{Happened}
use Rattle.slot_table.specs.declared.entries.Happened.TheVariants as call
use Rattle.slot_table.specs.History.{least_at, IsAtMost}
use Rattle.slot_table.specs.Passes.{Known, IsLater}
use Rattle.gather_core.specs.declared.rows.Row.{Row}
use Rattle.harvest_faults.specs.declared.faults.HarvestFault.{HarvestFault}
use Rattle.harvest_faults.specs.declared.faults.HarvestFault.TheVariants as fault
use Rattle.table_shares.specs.Rows.{first_at}

-- the calls that ask the least games of the numbers below this one, rising, where each answer is that of these rows
abbrev pub agreeing_firsts : List Row → ℕ → List Happened
agreeing_firsts rows zero = []
agreeing_firsts rows (suc number) = agreeing_firsts rows number ++ call.First number (first_at rows number) ∷ []

-- a pass asked the least games of the numbers below this one, each once, rising, and made no other call; each answer
-- agreed with the rows
abbrev pub AskedFirst : {O : Type 0} → ℕ → ℕ → List Row → Known O → Known O → Type 0
AskedFirst n count rows old new = IsLater n old (agreeing_firsts rows count) new

-- of all numbers
abbrev pub AskedAll : {O : Type 0} → ℕ → List Row → Known O → Known O → Type 0
AskedAll n rows old new = AskedFirst n n rows old new

-- at some number the answer differed from the least game of the rows; at each lesser one it agreed. The answer is no later
-- than what had been seen there before, and some call marked it
abbrev pub IsMarksFault : {O : Type 0} → ℕ → List Row → Known O → Known O → HarvestFault → Type 0
IsMarksFault n rows old new (fault.Marks number of_shares of_table) = (number < n) × (of_shares ≡ first_at rows number) × (of_shares ≢ of_table)
    × IsLater n old (agreeing_firsts rows number ++ call.First number of_table ∷ []) new
    × ((game : ℕ) → IsAtMost (least_at number old.seen) game → IsAtMost of_table game)
    × IfSome of_table (λ game. Contains new.seen (call.Marked number game))
IsMarksFault n rows old new found = ⊥
