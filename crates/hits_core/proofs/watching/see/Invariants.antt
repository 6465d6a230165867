use Rattle.std.proofs.Common.{◌-◌}
use Rattle.std.specs.List.{flat_map}
use Rattle.shape_core.specs.Word.{count_from}
use Rattle.tally_core.specs.Counts.{row_of, points_of}
use Rattle.hits_core.specs.Inner.Finding.{AddsUpTo}
use Rattle.hits_core.specs.Inner.Watching.{hits_over, AreOpen}
use Rattle.hits_core.proofs.watching.see.Given as goal

-- the rows from this one on are still to be looked at
abbrev pub invariant-loop-row : goal.invariant-loop-row
invariant-loop-row l =
    let hits = hits_over l.wanted l.field l.moment in
    let size = l.field.board.size in record {
      up : AddsUpTo l.fn.found l.found (hits (points_of size)) (hits (flat_map (row_of size) (count_from l.row (l.row-end - l.row))));
      rows : AreOpen l.wanted l.field l.moment.mover l.open_rows;
    }
