-- Faults of reading games, as they are named where games are counted, and why a game is not walked.
use Rattle.std.specs.Prelude.{ℕ, ◌*◌, ◌^◌, ◌≤◌, length}
use Rattle.go_record.specs.Actions.{Actions}
use Rattle.game_core.specs.declared.faults.GamesFault.{GamesFault}
use Rattle.game_core.specs.declared.faults.GamesFault.TheVariants as games
use Rattle.tally_core.specs.declared.faults.TallyFault.{TallyFault}
use Rattle.tally_core.specs.declared.faults.TallyFault.TheVariants as fault

-- the same fault
abbrev pub reading_fault : GamesFault → TallyFault
reading_fault games.Memory = fault.Memory
reading_fault (games.Sgf found) = fault.Sgf found

-- why a game is not walked: memory was wanting, or it has more actions than any input. An occasion is counted at most
-- twice for each of the 52 * 52 points, and twice more for the move.
abbrev pub IsTallyFault : Actions → TallyFault → Type 0
IsTallyFault game fault.Memory = Unit {0}
IsTallyFault game fault.Overflow = 2 ^ 64 ≤ 5410 * length game.actions
IsTallyFault game found = ⊥
