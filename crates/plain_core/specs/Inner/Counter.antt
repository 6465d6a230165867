-- Counts of patterns, as their rows have them.
use Rattle.std.specs.Prelude.{◌≡◌, ℕ, zero, suc, ◌+◌, ◌^◌, ◌≤◌, ◌==◌, nat_eq, nat_lt, List, length, count_by, sum_by, Option, Some, None, if◌then◌else◌}
use Rattle.std.specs.Map.{lookup}
use Rattle.std.specs.List.{flat_map, position_or_len}
use Rattle.go_record.specs.Actions.{Actions}
use Rattle.shape_core.specs.declared.words.Kinds.{Kinds}
use Rattle.tally_core.specs.Occasions.{Occasion, AreOccasions}
use Rattle.tally_core.specs.Counts.{Replayed, kinds_of, patterns_there, patterns_played, there_in}
use Rattle.tally_core.specs.Walk.{there_among, played_among}
use Rattle.tally_core.specs.Inner.Times.{times_in, AreAmong}
use Rattle.tally_core.specs.declared.meetings.Meeting.{Meeting}
use Rattle.tally_core.specs.Games.{there_sum, played_sum}
use Rattle.plain_core.specs.Inner.Count.{Count}
use Rattle.tally_core.specs.declared.faults.TallyFault.{TallyFault}
use Rattle.tally_core.specs.declared.faults.TallyFault.TheVariants as fault

-- the count of a pattern that rows have, if they have one
abbrev pub count_in : List (ℕ × Count) → ℕ → Option Count
count_in rows shape = lookup (nat_eq shape) rows

-- how often a pattern was counted, both counts together
abbrev pub uses_at : Option Count → ℕ
uses_at None = 0
uses_at (Some count) = count.there + count.played

-- no pattern was counted more often since than this
abbrev pub GrowsBy : ℕ → (ℕ → Option Count) → (ℕ → Option Count) → Type 0
GrowsBy most before after = (shape : ℕ) → uses_at (after shape) ≤ uses_at (before shape) + most

-- memory was wanting, or some pattern was counted so often that these counts more would pass 2 ^ 64 - 1
abbrev pub IsCountingFault : ℕ → (ℕ → Option Count) → TallyFault → Type 0
IsCountingFault most before fault.Memory = Unit {0}
IsCountingFault most before fault.Overflow = (shape : ℕ) × (2 ^ 64 ≤ uses_at (before shape) + most)
IsCountingFault most before found = ⊥

-- the count of a pattern that had none, once it was there and was played this often in a game
abbrev pub first_used : Option ℕ → ℕ → ℕ → Option Count
first_used game zero zero = None
first_used game zero (suc played) = Some (record { there = 0; played = suc played; first = game })
first_used game (suc there) played = Some (record { there = suc there; played = played; first = game })

-- a pattern's count once it was there and was played this often again, in a game
abbrev pub used_again : Option ℕ → ℕ → ℕ → Option Count → Option Count
used_again game there played None = first_used game there played
used_again game there played (Some count) = Some (record count { there = count.there + there; played = count.played + played })

-- what each pattern's count is once each was there and was played this often again
abbrev pub used : Option ℕ → (ℕ → ℕ) → (ℕ → ℕ) → (ℕ → Option Count) → ℕ → Option Count
used game there played before shape = used_again game (there shape) (played shape) (before shape)

-- each pattern's count is this
abbrev pub AreCounts : (ℕ → Option Count) → (ℕ → Option Count) → Type 0
AreCounts counts after = (shape : ℕ) → after shape ≡ counts shape

-- what each pattern's count is once the first were there and the second were played, in a game
abbrev pub Counts : Option ℕ → List ℕ → List ℕ → (ℕ → Option Count) → (ℕ → Option Count) → Type 0
Counts game there played before after = AreCounts (used game (times_in there) (times_in played) before) after

-- what each pattern's count is once the meetings of a game were counted
abbrev pub CountsMeetings : Option ℕ → List Meeting → (ℕ → Option Count) → (ℕ → Option Count) → Type 0
CountsMeetings game meetings before after = AreCounts (used game (there_among meetings) (played_among meetings) before) after

-- memory was wanting, or some pattern's count passes 2 ^ 64 - 1 with these meetings
abbrev pub IsMeetingsFault : Option ℕ → List Meeting → (ℕ → Option Count) → TallyFault → Type 0
IsMeetingsFault game meetings before found =
    IsCountingFault 0 (used game (there_among meetings) (played_among meetings) before) found

-- a game was counted, with its number where it has one
pub record CountsGame (kinds : Kinds) (game : Actions) (number : Option ℕ) (before after : ℕ → Option Count) (moves : ℕ) : Type 0 where
  pub occasions : List Occasion
  pub replayed : AreOccasions game occasions
  pub moves_counted : moves ≡ length occasions
  pub counted : Counts number (flat_map (patterns_there (kinds_of kinds) game.size) occasions) (flat_map (patterns_played (kinds_of kinds) game.size) occasions) before after
  pub among : AreAmong (flat_map (patterns_played (kinds_of kinds) game.size) occasions) (flat_map (patterns_there (kinds_of kinds) game.size) occasions)

-- what a map has of a pattern once these games were counted
abbrev pub games_count : Kinds → List Replayed → ℕ → Option Count
games_count kinds games shape =
    if nat_lt 0 (there_sum kinds games shape)
    then Some (record {
      there = there_sum kinds games shape;
      played = played_sum kinds games shape;
      first = Some (position_or_len (λ game. nat_lt 0 (there_in (kinds_of kinds) game shape)) games);
    })
    else None

-- these games were counted
pub record CountsGames (kinds : Kinds) (games : List Replayed) (counts : ℕ → Option Count) (moves : ℕ) : Type 0 where
  pub counted : (shape : ℕ) → counts shape ≡ games_count kinds games shape
  pub among : (shape : ℕ) → played_sum kinds games shape ≤ there_sum kinds games shape
  pub moves_counted : moves ≡ sum_by (λ game. length game.occasions) games
