use Rattle.std.proofs.Common.{◌≡◌, nat_le, nat_lt, ◌&&◌, ◌==◌, if◌then◌else◌}
use Rattle.go_board.specs.declared.points.Point.{Point}
use Rattle.go_board.specs.Point.{IsOn}
use Rattle.go_board.specs.Board.{position_of}
use Rattle.go_record.proofs.replaying.fill_row.Given as goal

abbrev pub invariant-loop-column : goal.invariant-loop-column
invariant-loop-column g l = record {
  size : (g.B.Replayable.board_of l.board).size ≡ (g.B.Replayable.board_of l.fn.board).size;
  stays : g.B.Replayable.Stays l.fn.board l.board;
  position : (q : Point) → IsOn (g.B.Replayable.board_of l.fn.board).size q → position_of (g.B.Replayable.board_of l.board) q
      ≡ (if nat_le l.first q.column && nat_lt q.column l.column && (q.row == l.row) then l.stone else position_of (g.B.Replayable.board_of l.fn.board) q);
}
