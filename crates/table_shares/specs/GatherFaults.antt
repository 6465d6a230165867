-- Why shares were not put together.
use Rattle.std.specs.Prelude.{ℕ, ◌^◌, ◌≤◌, ◌⊎◌, List}
use Rattle.slot_table.specs.Passes.{Known}
use Rattle.harvest_faults.specs.declared.faults.HarvestFault.{HarvestFault}
use Rattle.harvest_faults.specs.declared.faults.HarvestFault.TheVariants as fault
use Rattle.gather_core.specs.Shares.{Held}
use Rattle.gather_core.specs.Covering.{all_games, Covers}
use Rattle.table_shares.specs.Covering.{IsTwice, IsMissing}
use Rattle.gather_core.specs.Gathering.{all_rows, all_moves}
use Rattle.table_shares.specs.Checking.{Stand, IsStranger}
use Rattle.table_shares.specs.Agreeing.{AskedAll, IsMarksFault}
use Rattle.gather_core.specs.Rows.{there_of, played_of}

-- some pattern was there, or was played, 2 ^ 64 times or more, or the moves are as many
abbrev pub IsLargeSum : List Held → Type 0
IsLargeSum shares = ((shape : ℕ) × (2 ^ 64 ≤ there_of (all_rows shares) shape))
    ⊎ ((shape : ℕ) × (2 ^ 64 ≤ played_of (all_rows shares) shape)) ⊎ (2 ^ 64 ≤ all_moves shares)

-- a game is in shares twice, or missing; a row is of another pattern than the table has at its number; a mark differs; a sum is
-- too large; or memory was refused. Each but the last comes only where no earlier one of this order does.
abbrev pub IsGatherFault : {O : Type 0} → ℕ → ℕ → List Held → Known O → Known O → HarvestFault → Type 0
IsGatherFault n games shares old new (fault.Twice game) = IsTwice (all_games shares) game
IsGatherFault n games shares old new (fault.Missing game) = IsMissing games (all_games shares) game
IsGatherFault n games shares old new (fault.Stranger number of_share of_table) =
    Covers games (all_games shares) × IsStranger n new.seen (all_rows shares) number of_share of_table
IsGatherFault n games shares old new (fault.Marks number of_shares of_table) =
    Covers games (all_games shares) × Stand n new.seen (all_rows shares)
    × IsMarksFault n (all_rows shares) old new (fault.Marks number of_shares of_table)
IsGatherFault n games shares old new fault.Overflow =
    Covers games (all_games shares) × Stand n new.seen (all_rows shares) × AskedAll n (all_rows shares) old new × IsLargeSum shares
IsGatherFault n games shares old new fault.Memory = Unit {0}
IsGatherFault n games shares old new found = ⊥
