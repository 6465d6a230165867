-- Definitions that private contracts alone use, beside those of `Adding`.
use Rattle.std.specs.Prelude.{◌≡◌, ℕ, List, ◌++◌}
use Rattle.go_record.specs.Actions.{Actions}
use Rattle.probe_core.specs.declared.calls.Answer.{Answer}
use Rattle.shape_core.specs.declared.words.Kinds.{Kinds}
use Rattle.slot_table.specs.declared.entries.Happened.{Happened}
use Rattle.slot_table.specs.Batches.{AreTold}
use Rattle.tally_core.specs.declared.meetings.Meeting.{Meeting}
use Rattle.tally_core.specs.Walk.{IsWalk, IsAmong, shapes_of}
use Rattle.gather_core.specs.declared.rows.Row.{Row}
use Rattle.table_shares.specs.Adding.{AreFresh}
use Rattle.table_shares.specs.Inner.Raising.{AreRowed}

-- rows of a game's patterns were added to these that count nothing yet
pub record HasFresh (n : ℕ) (seen : List Happened) (kinds : Kinds) (actions : Actions) (old new : List Row) : Type 0 where
  pub fresh : List Row
  pub rows : new ≡ old ++ fresh
  pub made : AreFresh n seen kinds actions fresh

-- a game was walked, its patterns have numbers after a history, and these have rows
pub record IsPrepared (n : ℕ) (seen : List Happened) (kinds : Kinds) (actions : Actions) (meetings : List Meeting)
    (answers : List Answer) (rows : List Row) (moves : ℕ) : Type 0 where
  pub walked : IsWalk kinds actions meetings moves
  pub among : IsAmong meetings
  pub told : AreTold n seen (shapes_of meetings) answers
  pub rowed : AreRowed meetings answers rows
