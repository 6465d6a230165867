-- The totals of a share, and what counting a game adds to them.
use Rattle.std.specs.Prelude.{◌≡◌, ℕ, ◌+◌, ◌^◌, ◌≤◌, ◌⊎◌, List, [], ◌∷◌, ◌++◌}
use Rattle.probe_core.specs.declared.calls.Answer.{Answer}
use Rattle.tally_core.specs.declared.meetings.Meeting.{Meeting}
use Rattle.gather_core.specs.declared.rows.Row.{Row}
use Rattle.table_shares.specs.declared.ledgers.Ledger.{Ledger}
use Rattle.harvest_faults.specs.declared.faults.HarvestFault.{HarvestFault}
use Rattle.harvest_faults.specs.declared.faults.HarvestFault.TheVariants as fault
use Rattle.table_shares.specs.Raising.{weight_of, weight_among}
use Rattle.table_shares.specs.Inner.Raising.{AreRaised}

pub record Totals : Type 0 where
  pub games : List ℕ
  pub moves : ℕ
  pub rows : List Row

abbrev pub totals_of : Ledger → Totals
totals_of ledger = record { games = ledger.games.items; moves = ledger.moves; rows = ledger.rows }

-- a game with this number of moves was counted
pub record CountsIn (game moves : ℕ) (meetings : List Meeting) (answers : List Answer) (old new : Totals) : Type 0 where
  pub games : new.games ≡ old.games ++ game ∷ []
  pub moves_are : new.moves ≡ old.moves + moves
  pub rows : AreRaised meetings meetings answers game old.rows new.rows

-- why a game was not counted: memory was refused, or the moves or all counts together are too large
abbrev pub IsCountFault : ℕ → List Meeting → Totals → HarvestFault → Type 0
IsCountFault moves meetings old fault.Memory = Unit {0}
IsCountFault moves meetings old fault.Overflow =
    (2 ^ 64 ≤ weight_of old.rows + weight_among meetings) ⊎ (2 ^ 64 ≤ old.moves + moves)
IsCountFault moves meetings old found = ⊥
