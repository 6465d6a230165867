-- The row of the least number among those that are looked for.
use Rattle.std.specs.Prelude.{◌≡◌, ℕ, ◌≤◌, List, Option}
use Rattle.std.specs.Option.{option_map}
use Rattle.gather_core.specs.declared.rows.Row.{Row}
use Rattle.table_shares.specs.declared.leasts.Sought.{Sought}
use Rattle.table_shares.specs.declared.leasts.Sought.TheVariants as sought
use Rattle.table_shares.specs.ShareRows.{IsLeastFrom}
use Rattle.table_shares.specs.Inner.Confirming.{IsLeastOf}

-- a row of this number and of this pattern is looked for
abbrev pub IsSought : Sought → ℕ → ℕ → Type 0
IsSought (sought.Pattern wanted) number shape = shape ≡ wanted
IsSought (sought.From first) number shape = first ≤ number

-- a row of the least number of those that are looked for, or none where none is
abbrev pub IsLeastSought : Sought → List Row → Option Row → Type 0
IsLeastSought (sought.Pattern shape) rows least = IsLeastOf shape rows (option_map (λ row. row.number) least)
IsLeastSought (sought.From number) rows least = IsLeastFrom number rows least
