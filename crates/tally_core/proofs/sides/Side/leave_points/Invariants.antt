use Rattle.std.proofs.Common.{◌≡◌, ◌<◌, ◌^◌, ℕ, length}
use Rattle.std.specs.Int.{bit_at}
use Rattle.go_board.specs.declared.points.Colour.{Colour}
use Rattle.tally_core.specs.Walk.{shapes_of}
use Rattle.tally_core.specs.Inner.Standing.{AreStanding}
use Rattle.tally_core.specs.Inner.Sight.{points_in, StaysWith, HasLooked}
use Rattle.tally_core.proofs.sides.Side.leave_points.Given as goal

abbrev pub invariant-loop-bits : goal.invariant-loop-bits
invariant-loop-bits l = let size = l.field.board.size in record {
  within : l.bits < 2 ^ size.columns;
  changed : l.self.changed ≡ l.fn.self.changed;
  standing : l.self.standing ≡ l.fn.self.standing;
  among : (column : ℕ) → bit_at l.bits column ≡ 1 → bit_at l.columns column ≡ 1;
  looked : (mover : Colour) → HasLooked l.field mover (points_in size l.row l.columns) (points_in size l.row l.bits) l.fn.meetings l.fn.self l.meetings l.self;
  standing_now : AreStanding size (length (shapes_of l.meetings)) l.self;
  occasions : l.self.occasions ≡ l.fn.self.occasions;
  there : StaysWith l.fn.meetings l.fn.self l.meetings l.self;
}

abbrev pub decreases-loop-bits : goal.decreases-loop-bits
decreases-loop-bits l = l.bits
