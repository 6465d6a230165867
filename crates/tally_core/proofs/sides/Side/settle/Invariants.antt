use Rattle.std.proofs.Common.{◌≡◌, ◌+◌, ℕ, drop}
use Rattle.tally_core.specs.Walk.{shapes_of, there_among, played_among}
use Rattle.tally_core.specs.Inner.Standing.{waiting, there_with}
use Rattle.tally_core.proofs.sides.Side.settle.Given as goal

-- what was counted, and what stays at the points that are left, are what they were together
abbrev pub invariant-loop-stays : goal.invariant-loop-stays
invariant-loop-stays l = record {
  shapes : shapes_of l.meetings ≡ shapes_of l.fn.meetings;
  there : (shape : ℕ) → there_among l.meetings shape + waiting (shapes_of l.meetings) l.self.occasions (drop l.stays-index l.self.points.items) shape
      ≡ there_with l.fn.meetings l.self shape;
  played : (shape : ℕ) → played_among l.meetings shape ≡ played_among l.fn.meetings shape;
}
