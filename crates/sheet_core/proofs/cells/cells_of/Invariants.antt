use Rattle.std.proofs.Common.{◌≡◌, ◌++◌, length, take, drop}
use Rattle.sheet_core.specs.Cells.{cells_at}
use Rattle.sheet_core.proofs.cells.cells_of.Given as goal

abbrev pub invariant-loop-k : goal.invariant-loop-k
invariant-loop-k l = record {
  room : length l.cells ≡ 25;
  done : take l.k l.cells ++ cells_at (drop l.k l.places) (drop l.k l.glyphs) ≡ cells_at l.places l.glyphs;
}
