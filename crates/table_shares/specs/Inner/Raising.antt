-- Definitions that private contracts alone use, beside those of `Raising`.
use Rattle.std.specs.Prelude.{◌≡◌, ℕ, ◌+◌, ◌<◌, ◌==◌, ◌⊎◌, if◌then◌else◌, List, [], ◌∷◌, length, Option, Some, None, slice_index_or, slice_set}
use Rattle.probe_core.specs.declared.calls.Answer.{Answer}
use Rattle.probe_core.specs.declared.calls.Answer.TheVariants as answer
use Rattle.gather_core.specs.declared.rows.Row.{Row}
use Rattle.slot_table.specs.Batches.{answer_at}
use Rattle.slot_table.specs.History.{IsAtMost}
use Rattle.tally_core.specs.declared.meetings.Meeting.{Meeting}
use Rattle.tally_core.specs.Walk.{there_among, played_among}
use Rattle.table_shares.specs.Rows.{row_at}
use Rattle.gather_core.specs.Rows.{there_of, played_of, first_of, earlier}
use Rattle.table_shares.specs.Raising.{numbered_of, weight_of, weight_among}
use Rattle.table_shares.specs.Making.{HasRow}

-- a row with one meeting of a game more
abbrev pub raised : Row → Meeting → ℕ → Row
raised row meeting game = record {
  number = row.number;
  shape = row.shape;
  there = row.there + meeting.there;
  played = row.played + meeting.played;
  first = earlier row.first (Some game);
}

-- the game, if a pattern is met in it
abbrev pub game_met : ℕ → List Meeting → ℕ → Option ℕ
game_met game [] shape = None
game_met game (m ∷ meetings) shape = if m.shape == shape then Some game else game_met game meetings shape

-- the meeting at a place
abbrev pub meeting_at : List Meeting → ℕ → Meeting
meeting_at meetings i = slice_index_or meetings i (record { shape = 0; there = 0; played = 0 })

-- a number was answered, and some row is of it and of this pattern
abbrev pub HasRowFor : List Row → Answer → ℕ → Type 0
HasRowFor rows found shape = (number : ℕ) × (found ≡ answer.Number number) × HasRow rows number shape

-- each meeting got a number, and some row is of it and of the meeting's pattern
pub record AreRowed (meetings : List Meeting) (answers : List Answer) (rows : List Row) : Type 0 where
  pub long : length answers ≡ length meetings
  pub each : (i : ℕ) → i < length answers → HasRowFor rows (answer_at answers i) (meeting_at meetings i).shape

-- a row is of the number that was answered, and of this pattern
abbrev pub IsOf : Answer → ℕ → Row → Type 0
IsOf found shape row = (found ≡ answer.Number row.number) × (row.shape ≡ shape)

-- a meeting was added to the row of the number that was answered for it
pub record IsRaised (found : Answer) (meeting : Meeting) (game : ℕ) (old new : List Row) : Type 0 where
  pub place : ℕ
  pub within : place < length old
  pub is_of : IsOf found meeting.shape (row_at old place)
  pub rows : new ≡ slice_set old place (raised (row_at old place) meeting game)

-- meetings of a game, the first of these, were added to rows, each to that of its number
pub record AreRaised (added meetings : List Meeting) (answers : List Answer) (game : ℕ) (old new : List Row) : Type 0 where
  pub numbered : numbered_of new ≡ numbered_of old
  pub there : (shape : ℕ) → there_of new shape ≡ there_of old shape + there_among added shape
  pub played : (shape : ℕ) → played_of new shape ≡ played_of old shape + played_among added shape
  pub first : (shape : ℕ) → first_of new shape ≡ earlier (first_of old shape) (game_met game added shape)
  pub weight : weight_of new ≡ weight_of old + weight_among added
  pub others : (place : ℕ) → (row_at new place ≡ row_at old place)
      ⊎ ((i : ℕ) × (i < length added) × IsOf (answer_at answers i) (meeting_at meetings i).shape (row_at new place))
  pub begun : (i : ℕ) → i < length added → (place : ℕ) × (place < length new)
      × IsOf (answer_at answers i) (meeting_at meetings i).shape (row_at new place) × IsAtMost (row_at new place).first game
