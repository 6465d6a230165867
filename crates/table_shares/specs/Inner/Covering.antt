-- Definitions that private contracts alone use, beside those of `Covering`.
use Rattle.std.specs.Prelude.{◌≡◌, ℕ, ◌<◌, List, nat_lt, false, length, slice_index_or}
use Rattle.table_shares.specs.declared.covering.Seen.{Seen}
use Rattle.harvest_faults.specs.declared.faults.HarvestFault.{HarvestFault}
use Rattle.harvest_faults.specs.declared.faults.HarvestFault.TheVariants as fault
use Rattle.gather_core.specs.Covering.{times_of}
use Rattle.table_shares.specs.Covering.{IsLeastDouble, IsTwice, IsMissing}

-- of each game below some number it is known whether it is in a list, and the least one that is in it twice
pub record AreNoted (list : List ℕ) (seen : Seen) : Type 0 where
  pub each : (game : ℕ) → game < length seen.games.items → slice_index_or seen.games.items game false ≡ nat_lt 0 (times_of list game)
  pub least : IsLeastDouble list seen.twice

-- why the games of shares are not the numbers below this one, each once; or memory was refused
abbrev pub IsCoverFault : ℕ → List ℕ → HarvestFault → Type 0
IsCoverFault games list (fault.Twice game) = IsTwice list game
IsCoverFault games list (fault.Missing game) = IsMissing games list game
IsCoverFault games list fault.Memory = Unit {0}
IsCoverFault games list found = ⊥
