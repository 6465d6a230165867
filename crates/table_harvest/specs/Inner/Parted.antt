-- What workers hand back, parted, and which of several refusals is reported.
use Rattle.std.specs.Prelude.{◌≡◌, ◌⊎◌, ℕ, ◌<◌, List, Contains, map}
use Rattle.std.specs.List.{filter_map}
use Rattle.gather_core.specs.Shares.{Held}
use Rattle.harvest_faults.specs.declared.faults.HarvestFault.{HarvestFault}
use Rattle.harvest_faults.specs.declared.faults.HarvestFault.TheVariants as fault
use Rattle.table_harvest.specs.declared.working.Worked.{Worked}

-- the share of each worker, in the order of the workers
abbrev pub shares_of : List Worked → List Held
shares_of worked = map (λ (one : Worked). one.share) worked

-- why games were not added, where workers say so, in the order of the workers
abbrev pub refusals_of : List Worked → List HarvestFault
refusals_of worked = filter_map (λ (one : Worked). one.refused) worked

-- the place of a fault in the order in which faults of games are reported: out of memory, lack of a number, strangers,
-- and then a count that is too large
abbrev pub rank : HarvestFault → ℕ
rank fault.Memory = 0
rank (fault.Full game word) = 1
rank (fault.Stranger number of_share of_table) = 2
rank fault.Overflow = 3
rank found = 4

-- the game that found no number, and 0 for other faults
abbrev pub game_of : HarvestFault → ℕ
game_of (fault.Full game word) = game
game_of found = 0

-- one fault is reported rather than another: it has the lesser place, or the same one and the lesser game
abbrev pub GoesFirst : HarvestFault → HarvestFault → Type 0
GoesFirst one other = (rank one < rank other) ⊎ ((rank one ≡ rank other) × (game_of one < game_of other))

-- one of these faults, and none of them precedes it
pub record IsWorst (refusals : List HarvestFault) (found : HarvestFault) : Type 0 where
  pub among : Contains refusals found
  pub first : (other : HarvestFault) → Contains refusals other → GoesFirst other found → ⊥
