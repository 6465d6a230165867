-- What stays at the points of a board while a game is walked: the meetings that are pending there, for one mover.
use Rattle.std.specs.Prelude.{◌≡◌, ℕ, ◌+◌, ◌-◌, ◌*◌, ◌^◌, ◌<◌, ◌≤◌, ◌==◌, ◌⊎◌, Bool, List, [], ◌∷◌, ◌++◌, length, filter, sum_by, slice_index, slice_index_or, All, Option, Some, None}
use Rattle.std.specs.List.{flat_map}
use Rattle.std.specs.Int.{bit_at}
use Rattle.go_board.specs.Extent.{Extent}
use Rattle.go_board.specs.Position.{Position}
use Rattle.go_board.specs.Point.{IsOn, index_of}
use Rattle.go_board.specs.declared.points.Point.{Point}
use Rattle.go_board.specs.declared.points.Colour.{Colour}
use Rattle.shape_core.specs.declared.words.Kinds.{Kinds}
use Rattle.shape_core.specs.Field.{IsMarked}
use Rattle.shape_core.specs.KeptLists.{AreMarks}
use Rattle.tally_core.specs.Occasions.{Occasion, is_empty, HasOccasions}
use Rattle.tally_core.specs.Inner.Meeting.{Meets}
use Rattle.tally_core.specs.Counts.{kinds_of, points_of, patterns_at, patterns_there, patterns_played}
use Rattle.tally_core.specs.Inner.Times.{one_pattern, times_in}
use Rattle.tally_core.specs.declared.stays.Stay.{Stay}
use Rattle.tally_core.specs.declared.stays.Stays.{Stays}
use Rattle.tally_core.specs.declared.sides.Side.{Side}
use Rattle.tally_core.specs.declared.game_walks.GameWalk.{GameWalk}
use Rattle.tally_core.specs.declared.meetings.Meeting.{Meeting}
use Rattle.tally_core.specs.Walk.{there_among, played_among, shapes_of, once_each}
use Rattle.go_board.specs.Board.{position_of}
use Rattle.go_board.specs.declared.points.Colour.TheVariants as colour
use Rattle.go_record.specs.declared.actions.Action.{Action}

-- a stay is that of a meeting, and began no later than now
abbrev pub IsStay : ℕ → ℕ → Option Stay → Type 0
IsStay met occasions None = Unit {0}
IsStay met occasions (Some stay) = (stay.meeting < met) × (stay.since ≤ occasions)

-- the same of what stays at a point
pub record AreStays (met occasions : ℕ) (stays : Stays) : Type 0 where
  pub square : IsStay met occasions stays.square
  pub diamond : IsStay met occasions stays.diamond

-- the pattern of a stay
abbrev pub patterns_of : List ℕ → Option Stay → List ℕ
patterns_of shapes None = []
patterns_of shapes (Some stay) = slice_index shapes stay.meeting ∷ []

-- the patterns that stay at a point
abbrev pub patterns_staying : List ℕ → Stays → List ℕ
patterns_staying shapes stays = patterns_of shapes stays.square ++ patterns_of shapes stays.diamond

-- the occasions since a stay began, which are not counted yet
abbrev pub waits : List ℕ → ℕ → Option Stay → ℕ → ℕ
waits shapes occasions None shape = 0
waits shapes occasions (Some stay) shape = one_pattern (slice_index shapes stay.meeting) (occasions - stay.since) shape

-- the same of what stays at a point
abbrev pub waits_at : List ℕ → ℕ → Stays → ℕ → ℕ
waits_at shapes occasions stays shape = waits shapes occasions stays.square shape + waits shapes occasions stays.diamond shape

-- and of what stays at all points
abbrev pub waiting : List ℕ → ℕ → List Stays → ℕ → ℕ
waiting shapes occasions points shape = sum_by (λ stays. waits_at shapes occasions stays shape) points

-- the patterns of a point, if it is empty
abbrev pub patterns_here : Kinds → Extent → Position → Colour → Point → List ℕ
patterns_here kinds size position mover point =
    flat_map (patterns_at (kinds_of kinds) size position mover) (filter (λ q. is_empty (position q)) (point ∷ []))

-- the patterns of a board, point by point
abbrev pub patterns_seen : Kinds → Extent → Position → Colour → List ℕ
patterns_seen kinds size position mover = flat_map (patterns_here kinds size position mover) (points_of size)

-- how often a shape was there, with the occasions that are not counted yet
abbrev pub there_with : List Meeting → Side → ℕ → ℕ
there_with meetings side shape =
    there_among meetings shape + waiting (shapes_of meetings) side.occasions side.points.items shape

-- the same with those of both colours: what would be counted if all that stays were settled now
abbrev pub there_both : GameWalk → ℕ → ℕ
there_both walk shape =
    there_among walk.meetings shape
    + waiting (shapes_of walk.meetings) walk.black.occasions walk.black.points.items shape
    + waiting (shapes_of walk.meetings) walk.white.occasions walk.white.points.items shape

-- nothing stays
abbrev pub no_stays : Stays
no_stays = record { square = None; diamond = None }

-- what stays at a point are its patterns in this position
abbrev pub StayThere : Kinds → Extent → Position → Colour → List ℕ → List Stays → Point → Type 0
StayThere kinds size position mover shapes points q =
    patterns_staying shapes (slice_index_or points (index_of size q) no_stays) ≡ patterns_here kinds size position mover q

-- whether a point is in a set, as bits of rows
abbrev pub is_in_set : List ℕ → Point → Bool
is_in_set set q = bit_at (slice_index set q.row) q.column == 1

-- a list of what stays at points, which is good for a board and for this number of meetings
pub record AreStanding (size : Extent) (met : ℕ) (side : Side) : Type 0 where
  pub room : length side.points.items ≡ size.columns * size.rows
  pub marks : AreMarks size side.changed.items
  pub stays : All (AreStays met side.occasions) side.points.items
  pub standing : AreMarks size side.standing.items
  pub nothing :
      (q : Point) → IsOn size q → bit_at (slice_index side.standing.items q.row) q.column ≡ 0 →
      slice_index_or side.points.items (index_of size q) no_stays ≡ no_stays

-- what stays at each point that is not in the set are its patterns
pub record IsSide (kinds : Kinds) (size : Extent) (position : Position) (mover : Colour) (shapes : List ℕ) (side : Side) : Type 0 where
  pub standing : AreStanding size (length shapes) side
  pub pending : (q : Point) → IsOn size q → IsMarked side.changed.items q ⊎ StayThere kinds size position mover shapes side.points.items q

-- what stays at each point are its patterns
pub record IsSeen (kinds : Kinds) (size : Extent) (position : Position) (mover : Colour) (shapes : List ℕ) (side : Side) : Type 0 where
  pub standing : AreStanding size (length shapes) side
  pub pending : (q : Point) → IsOn size q → StayThere kinds size position mover shapes side.points.items q

-- both sides are those of the position
pub record AreSides (walk : GameWalk) : Type 0 where
  pub black : IsSide walk.field.kinds walk.field.board.size (position_of walk.field.board) colour.Black (shapes_of walk.meetings) walk.black
  pub white : IsSide walk.field.kinds walk.field.board.size (position_of walk.field.board) colour.White (shapes_of walk.meetings) walk.white

-- one occasion more passes no limit
pub record HaveRoom (walk : GameWalk) : Type 0 where
  pub there : (shape : ℕ) → there_both walk shape + 5408 < 2 ^ 64
  pub played : (shape : ℕ) → played_among walk.meetings shape + 2 < 2 ^ 64
  pub black : walk.black.occasions + 1 < 2 ^ 64
  pub white : walk.white.occasions + 1 < 2 ^ 64

-- these occasions, this number of them and at most one, were counted
pub record CountsOccasions (done : List Occasion) (before after : GameWalk) (moves : ℕ) : Type 0 where
  pub moves_counted : moves ≡ length done
  pub few : moves ≤ 1
  pub black : after.black.occasions ≤ before.black.occasions + moves
  pub white : after.white.occasions ≤ before.white.occasions + moves
  pub there : (shape : ℕ) → there_both after shape ≡ there_both before shape + times_in (flat_map (patterns_there (kinds_of before.field.kinds) before.field.board.size) done) shape
  pub played : (shape : ℕ) → played_among after.meetings shape ≡ played_among before.meetings shape + times_in (flat_map (patterns_played (kinds_of before.field.kinds) before.field.board.size) done) shape
  pub meets : Meets (shapes_of before.meetings) (flat_map (patterns_there (kinds_of before.field.kinds) before.field.board.size) done) (shapes_of after.meetings)

-- what was counted, and what stays, are as they were
pub record KeepsCounts (before after : GameWalk) : Type 0 where
  pub meetings : after.meetings ≡ before.meetings
  pub black_occasions : after.black.occasions ≡ before.black.occasions
  pub black_points : after.black.points ≡ before.black.points
  pub white_occasions : after.white.occasions ≡ before.white.occasions
  pub white_points : after.white.points ≡ before.white.points

-- a side before the first action: nothing stays, and every point is in the set
pub record IsNewSide (size : Extent) (side : Side) : Type 0 where
  pub occasions : side.occasions ≡ 0
  pub standing : AreStanding size 0 side
  pub nothing : (shapes : List ℕ) (shape : ℕ) → waiting shapes 0 side.points.items shape ≡ 0
  pub all : (q : Point) → IsOn size q → IsMarked side.changed.items q

-- these meetings are those of all occasions of some actions, this number of them
pub record IsWalkOf (kinds : Kinds) (size : Extent) (actions : List Action) (start : Position) (meetings : List Meeting) (moves : ℕ) : Type 0 where
  pub occasions : List Occasion
  pub replayed : HasOccasions size actions start occasions
  pub moves_counted : moves ≡ length occasions
  pub there : (shape : ℕ) → there_among meetings shape ≡ times_in (flat_map (patterns_there (kinds_of kinds) size) occasions) shape
  pub played : (shape : ℕ) → played_among meetings shape ≡ times_in (flat_map (patterns_played (kinds_of kinds) size) occasions) shape
  pub order : once_each (shapes_of meetings) ≡ once_each (flat_map (patterns_there (kinds_of kinds) size) occasions)

-- the first actions of a game were walked: whatever occasions the others have, all have these and those
pub record IsFront (all left : List Action) (start : Position) (walk : GameWalk) (moves : ℕ) : Type 0 where
  pub done : List Occasion
  pub others : (others : List Occasion) → HasOccasions walk.field.board.size left (position_of walk.field.board) others → HasOccasions walk.field.board.size all start (done ++ others)
  pub moves_counted : moves ≡ length done
  pub there : (shape : ℕ) → there_both walk shape ≡ times_in (flat_map (patterns_there (kinds_of walk.field.kinds) walk.field.board.size) done) shape
  pub played : (shape : ℕ) → played_among walk.meetings shape ≡ times_in (flat_map (patterns_played (kinds_of walk.field.kinds) walk.field.board.size) done) shape
  pub order : once_each (shapes_of walk.meetings) ≡ once_each (flat_map (patterns_there (kinds_of walk.field.kinds) walk.field.board.size) done)
