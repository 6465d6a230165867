use Rattle.std.proofs.Common.{◌≡◌, ◌<◌, ◌^◌, ℕ}
use Rattle.std.specs.Int.{bit_at}
use Rattle.tally_core.specs.Inner.Sight.{points_in, StaysWith, HasLooked}
use Rattle.tally_core.proofs.sides.Side.see_row.Given as goal

-- of the points that come, those are left whose bits are set still
abbrev pub invariant-loop-coming : goal.invariant-loop-coming
invariant-loop-coming l = let size = l.field.board.size in record {
  within : l.coming < 2 ^ size.columns;
  changed : l.self.changed ≡ l.initial.self.changed;
  standing : l.self.standing ≡ l.initial.self.standing;
  among : (column : ℕ) → bit_at l.coming column ≡ 1 → bit_at l.initial.coming column ≡ 1;
  occasions : l.self.occasions ≡ l.fn.self.occasions;
  there : StaysWith l.fn.meetings l.fn.self l.meetings l.self;
  looked : HasLooked l.field l.mover (points_in size l.row l.initial.coming) (points_in size l.row l.coming) l.initial.meetings l.initial.self l.meetings l.self;
}

abbrev pub decreases-loop-coming : goal.decreases-loop-coming
decreases-loop-coming l = l.coming
