use Rattle.std.proofs.Common.{ℕ, ◌-◌, map}
use Rattle.go_board.specs.declared.points.Point.{Point}
use Rattle.shape_core.specs.Word.{count_from}
use Rattle.tally_core.specs.Counts.{row_of}
use Rattle.hits_core.specs.Inner.Finding.{AddsUpTo}
use Rattle.hits_core.specs.Inner.Watching.{hits_over}
use Rattle.hits_core.proofs.Opening.{AreOpenBefore}
use Rattle.hits_core.proofs.watching.see_row.Given as goal

-- the points from the column on are still to be looked at
abbrev pub invariant-loop-column : goal.invariant-loop-column
invariant-loop-column l =
    let hits = hits_over l.wanted l.field l.moment in
    let at : ℕ → Point = λ k. record { column = k; row = l.row } in record {
      up : AddsUpTo l.fn.found l.found (hits (row_of l.field.board.size l.row)) (hits (map at (count_from l.column (l.column-end - l.column))));
      before : AreOpenBefore l.wanted l.field l.moment.mover l.row l.column l.left;
    }
