use Rattle.std.proofs.Common.{◌≡◌, drop}
use Rattle.std.specs.List.{list_any}
use Rattle.sheet_core.specs.Sides.{is_end}
use Rattle.sheet_core.proofs.sides.ends_at.Given as goal

abbrev pub invariant-loop-other : goal.invariant-loop-other
invariant-loop-other l = list_any (is_end l.side l.cell) (drop l.other-index l.cells) ≡ list_any (is_end l.side l.cell) l.cells
