-- The words of a walk over a field as it is: what is seen, what stays, and what an action counts.
use Rattle.std.specs.Prelude.{◌≡◌, ℕ, ◌+◌, ◌^◌, ◌<◌, ◌==◌, ◌⊎◌, List, ◌++◌, length, filter, slice_index, Contains}
use Rattle.std.specs.List.{flat_map}
use Rattle.std.specs.Int.{bit_at}
use Rattle.go_board.specs.Extent.{Extent}
use Rattle.tally_core.specs.Inner.Meeting.{Meets}
use Rattle.go_board.specs.Board.{Stones, position_of}
use Rattle.go_board.specs.declared.points.Stone.TheVariants as stone
use Rattle.go_board.specs.Point.{IsOn}
use Rattle.go_board.specs.declared.points.Point.{Point}
use Rattle.go_board.specs.declared.points.Colour.{Colour}
use Rattle.go_record.specs.declared.actions.Action.{Action}
use Rattle.shape_core.specs.Field.{Kept}
use Rattle.shape_core.specs.Around.{word_around}
use Rattle.shape_core.specs.Symmetry.{canonical_of}
use Rattle.shape_core.specs.declared.words.Kind.TheVariants as kind
use Rattle.tally_core.specs.Occasions.{occasion_of}
use Rattle.tally_core.specs.Counts.{kinds_of, patterns_at, row_of}
use Rattle.tally_core.specs.Inner.Times.{times_in}
use Rattle.tally_core.specs.Walk.{there_among, played_among, shapes_of}
use Rattle.tally_core.specs.Inner.Standing.{waits_at, there_with, patterns_here, patterns_seen, StayThere, AreStanding, IsSide, IsSeen, CountsOccasions}
use Rattle.tally_core.specs.declared.meetings.Meeting.{Meeting}
use Rattle.tally_core.specs.declared.stays.Stays.{Stays}
use Rattle.tally_core.specs.declared.sides.Side.{Side}
use Rattle.tally_core.specs.declared.game_walks.GameWalk.{GameWalk}

-- no pattern was there more often than before
abbrev pub ThereStays : List Meeting → List Meeting → Type 0
ThereStays before after = (shape : ℕ) → there_among after shape ≡ there_among before shape

-- no pattern was played more often than before
abbrev pub PlayedStays : List Meeting → List Meeting → Type 0
PlayedStays before after = (shape : ℕ) → played_among after shape ≡ played_among before shape

-- how often a shape was there, with the occasions of what stays at a point
abbrev pub there_at : List Meeting → ℕ → Stays → ℕ → ℕ
there_at meetings occasions stays shape =
    there_among meetings shape + waits_at (shapes_of meetings) occasions stays shape

-- with what stays at a point, no pattern was there more often than before
abbrev pub StaysAt : ℕ → List Meeting → Stays → List Meeting → Stays → Type 0
StaysAt occasions before stays after new =
    (shape : ℕ) → there_at after occasions new shape ≡ there_at before occasions stays shape

-- with all that stays, no pattern was there more often than before
abbrev pub StaysWith : List Meeting → Side → List Meeting → Side → Type 0
StaysWith before side after new = (shape : ℕ) → there_with after new shape ≡ there_with before side shape

-- the patterns of a point of a field
abbrev pub here_on : Kept → Colour → Point → List ℕ
here_on field mover point = patterns_here field.kinds field.board.size (position_of field.board) mover point

-- the diamond of a point of a field
abbrev pub diamond_on : Kept → Colour → Point → ℕ
diamond_on field mover point = canonical_of (word_around kind.Diamond field.board.size (position_of field.board) point) mover

-- the patterns of all points of a field
abbrev pub seen_on : Kept → Colour → List ℕ
seen_on field mover = patterns_seen field.kinds field.board.size (position_of field.board) mover

-- the patterns of the point of a move
abbrev pub played_on : Kept → Colour → Point → List ℕ
played_on field mover at =
    patterns_at (kinds_of field.kinds) field.board.size (position_of field.board) mover at

-- what stays at a point are its patterns on a field
abbrev pub StayOn : Kept → Colour → List Meeting → Side → Point → Type 0
StayOn field mover meetings side q =
    StayThere field.kinds field.board.size (position_of field.board) mover (shapes_of meetings) side.points.items q

-- what stayed at other points stays there, and at these points their patterns stay now
abbrev pub LooksAt : Kept → Colour → List Point → List Meeting → Side → List Meeting → Side → Type 0
LooksAt field mover points before side after new =
    (q : Point) → IsOn field.board.size q → Contains points q ⊎ StayOn field mover before side q → StayOn field mover after new q

-- the points of a row whose bits are set, from the left
abbrev pub points_in : Extent → ℕ → ℕ → List Point
points_in size row bits = filter (λ q. bit_at bits q.column == 1) (row_of size row)

-- the points of a row that are in a side's set
abbrev pub changed_in : Extent → Side → ℕ → List Point
changed_in size side row = points_in size row (slice_index side.changed.items row)

-- none of these points of a row is empty
abbrev pub AllFilled : Stones → ℕ → ℕ → Type 0
AllFilled board row bits =
    (column : ℕ) → bit_at bits column ≡ 1 → position_of board (record { column = column; row = row }) ≡ stone.Empty → ⊥

-- these points but for those that are left were looked at, in their order
pub record HasLooked (field : Kept) (mover : Colour) (points left : List Point) (before : List Meeting) (side : Side) (after : List Meeting) (new : Side) : Type 0 where
  pub seen : List Point
  pub all : seen ++ left ≡ points
  pub standing : AreStanding field.board.size (length (shapes_of after)) new
  pub occasions : new.occasions ≡ side.occasions
  pub there : StaysWith before side after new
  pub played : PlayedStays before after
  pub meets : Meets (shapes_of before) (flat_map (here_on field mover) seen) (shapes_of after)
  pub looks : LooksAt field mover seen before side after new

-- a side is that of a field
abbrev pub IsSideOn : Kept → Colour → List Meeting → Side → Type 0
IsSideOn field mover meetings side =
    IsSide field.kinds field.board.size (position_of field.board) mover (shapes_of meetings) side

-- what stays for a colour is what is there on a field
abbrev pub IsSeenOn : Kept → Colour → List Meeting → Side → Type 0
IsSeenOn field mover meetings side =
    IsSeen field.kinds field.board.size (position_of field.board) mover (shapes_of meetings) side

-- this number of further patterns was there, with all that stays
abbrev pub AddsThere : List ℕ → List Meeting → Side → List Meeting → Side → Type 0
AddsThere patterns before side after new =
    (shape : ℕ) → there_with after new shape ≡ there_with before side shape + times_in patterns shape

-- this number of further patterns was played
abbrev pub AddsPlayed : List ℕ → List Meeting → List Meeting → Type 0
AddsPlayed patterns before after =
    (shape : ℕ) → played_among after shape ≡ played_among before shape + times_in patterns shape

-- the occasions of an action, this number of them, were counted
abbrev pub CountsAction : Action → GameWalk → GameWalk → ℕ → Type 0
CountsAction action before after =
    CountsOccasions (occasion_of (position_of before.field.board) action) before after

-- counts of a pattern that stay below the limit of a word
abbrev pub Fit : (ℕ → ℕ) → Type 0
Fit count = (shape : ℕ) → count shape < 2 ^ 64
