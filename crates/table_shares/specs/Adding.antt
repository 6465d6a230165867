-- What adding a game to a share over a table does besides, and why it may be refused.
use Rattle.std.specs.Prelude.{◌≡◌, ◌≢◌, ℕ, ◌+◌, ◌*◌, ◌^◌, ◌<◌, ◌≤◌, ◌⊎◌, List, ◌∷◌, ◌++◌, length, Some, All, Contains}
use Rattle.go_record.specs.Actions.{Actions}
use Rattle.shape_core.specs.declared.words.Kinds.{Kinds}
use Rattle.probe_core.specs.declared.calls.Answer.{Answer}
use Rattle.probe_core.specs.declared.calls.Answer.TheVariants as answer
use Rattle.probe_core.specs.Sequential.{IsNumber, IsAbsent, IsFull}
use Rattle.slot_table.specs.declared.entries.Happened.{Happened}
use Rattle.slot_table.specs.History.{content_of, least_at, IsAtMost}
use Rattle.tally_core.specs.declared.meetings.Meeting.{Meeting}
use Rattle.tally_core.specs.Counts.{kinds_of, there_in}
use Rattle.tally_core.specs.Walk.{IsWalk, shapes_of}
use Rattle.gather_core.specs.declared.rows.Row.{Row}
use Rattle.harvest_faults.specs.declared.faults.HarvestFault.{HarvestFault}
use Rattle.harvest_faults.specs.declared.faults.HarvestFault.TheVariants as fault
use Rattle.table_shares.specs.Rows.{row_at, blank}
use Rattle.table_shares.specs.Raising.{numbered_of, weight_of, weight_among}
use Rattle.table_shares.specs.Making.{HasRow}
use Rattle.gather_core.specs.Shares.{Held, IsPatternOf}
use Rattle.gather_core.specs.Adding.{IsAdded}

-- rows of patterns of a game that count nothing yet, each of the number that the pattern has after a history
abbrev pub AreFresh : ℕ → List Happened → Kinds → Actions → List Row → Type 0
AreFresh n seen kinds actions fresh = (k : ℕ) → k < length fresh →
    (row_at fresh k ≡ blank (row_at fresh k).number (row_at fresh k).shape)
    × IsPatternOf kinds actions (row_at fresh k).shape
    × IsNumber (content_of n seen) (row_at fresh k).shape (row_at fresh k).number

-- the rows that were made are of patterns of the game, and each row that was made or raised is of the number that its
-- pattern has
pub record HasGrown (n : ℕ) (seen : List Happened) (actions : Actions) (old new : Held) : Type 0 where
  pub fresh : List Row
  pub made : AreFresh n seen old.kinds actions fresh
  pub numbered : numbered_of new.rows ≡ numbered_of old.rows ++ numbered_of fresh
  pub stands : (place : ℕ) → place < length new.rows → (row_at new.rows place ≡ row_at (old.rows ++ fresh) place)
      ⊎ IsNumber (content_of n seen) (row_at new.rows place).shape (row_at new.rows place).number

-- the game was added, and each pattern that was there in it has a number at which a game is marked that is no later
abbrev pub IsMarked : ℕ → List Happened → ℕ → Actions → Held → Held → Type 0
IsMarked n seen game actions old new = (added : IsAdded game actions old new)
    × ((shape : ℕ) → 0 < there_in (kinds_of old.kinds) (record { size = actions.size; occasions = added.occasions }) shape
    → (p : ℕ) × IsNumber (content_of n seen) shape p × IsAtMost (least_at p seen) game)

-- a share after a game was refused: rows may have come that count nothing
pub record IsKept (n : ℕ) (seen : List Happened) (actions : Actions) (old new : Held) : Type 0 where
  pub fresh : List Row
  pub made : AreFresh n seen old.kinds actions fresh
  pub same : new ≡ record old { rows = old.rows ++ fresh }

-- the counts of a share and of a game are too large together: of all patterns, or their moves
pub record IsTooLarge (actions : Actions) (old : Held) : Type 0 where
  pub meetings : List Meeting
  pub moves : ℕ
  pub walked : IsWalk old.kinds actions meetings moves
  pub large : (2 ^ 64 ≤ weight_of old.rows + weight_among meetings) ⊎ (2 ^ 64 ≤ old.moves + moves)

-- a pattern has a number after a history, and there is a row of both
abbrev pub HasItsRow : ℕ → List Happened → List Row → ℕ → Type 0
HasItsRow n seen rows shape = (number : ℕ) × IsNumber (content_of n seen) shape number × HasRow rows number shape

-- the pattern is the first of a game's walk that found no number: each before it has one, and its row
pub record IsFirstRefused (n : ℕ) (seen : List Happened) (kinds : Kinds) (actions : Actions) (rows : List Row) (word : ℕ) : Type 0 where
  pub meetings : List Meeting
  pub moves : ℕ
  pub walked : IsWalk kinds actions meetings moves
  pub before : List ℕ
  pub after : List ℕ
  pub in_walk : shapes_of meetings ≡ before ++ word ∷ after
  pub rowed : All (HasItsRow n seen rows) before

-- why no counting of a game was begun: no number is free for a pattern of it, and it is the first such in the game's walk; the
-- row of the number of a pattern of it is of another one; memory was refused; the game has more actions than any input
abbrev pub IsPrepareFault : ℕ → List Happened → ℕ → Kinds → Actions → List Row → HarvestFault → Type 0
IsPrepareFault n seen game kinds actions rows (fault.Full at word) = (at ≡ game) × IsPatternOf kinds actions word
    × IsAbsent (content_of n seen) word × IsFull (content_of n seen) × IsFirstRefused n seen kinds actions rows word
IsPrepareFault n seen game kinds actions rows (fault.Stranger number (Some held) (Some other)) = IsPatternOf kinds actions other
    × IsNumber (content_of n seen) other number × (held ≢ other) × HasRow rows number held
IsPrepareFault n seen game kinds actions rows fault.Memory = Unit {0}
IsPrepareFault n seen game kinds actions rows fault.Overflow = 2 ^ 64 ≤ 5410 * length actions.actions
IsPrepareFault n seen game kinds actions rows found = ⊥

-- why a game was not added: no number is free for a pattern of it; the share's row of the number of a pattern of it is of
-- another one; memory was refused; counts are too large
abbrev pub IsAddFault : ℕ → List Happened → ℕ → Actions → Held → Held → HarvestFault → Type 0
IsAddFault n seen game actions old new fault.Overflow = IsTooLarge actions old ⊎ (2 ^ 64 ≤ 5410 * length actions.actions)
IsAddFault n seen game actions old new found = IsPrepareFault n seen game old.kinds actions new.rows found

-- where a key got this answer, and it is a number, some row is of the number and the key
abbrev pub IsRowed : List Row → ℕ → Answer → Type 0
IsRowed rows key (answer.Number number) = HasRow rows number key
IsRowed rows key answer.Absent = Unit {0}
IsRowed rows key answer.Full = Unit {0}

-- the same after a fault; where it is out of memory, or a row of another pattern, a number may have got no row
abbrev pub IsRowedAfter : HarvestFault → List Row → ℕ → Answer → Type 0
IsRowedAfter fault.Memory rows key found = Unit {0}
IsRowedAfter (fault.Stranger number of_share of_table) rows key found = Unit {0}
IsRowedAfter one rows key found = IsRowed rows key found

-- a key that was entered for a game, with its answer: it is a pattern of the game, and `rowed` holds of both, which says
-- whether the number has a row
pub record IsEntryOf (kinds : Kinds) (actions : Actions) (rowed : ℕ → Answer → Type 0) (key : ℕ) (found : Answer) : Type 0 where
  pub pattern : IsPatternOf kinds actions key
  pub has_row : rowed key found

-- a game that was marked at a number: it is this game, and a row of the number is of a pattern of the game, which has the
-- number after a history; the row's first game is no later
pub record IsMarkOf (n : ℕ) (seen : List Happened) (kinds : Kinds) (actions : Actions) (rows : List Row) (game number marked : ℕ) : Type 0 where
  pub game_is : marked ≡ game
  pub row : Row
  pub there : Contains rows row
  pub number_is : row.number ≡ number
  pub first : IsAtMost row.first game
  pub pattern : IsPatternOf kinds actions row.shape
  pub stands : IsNumber (content_of n seen) row.shape number
