use Rattle.std.proofs.Common.{ap, cond, ◌∙◌, arith, ◌+◌, ◌≡◌}
use Rattle.go_board.specs.Board.{position_of}
use Rattle.go_record.proofs.Rectangles.{one_row}
use Rattle.go_record.proofs.replaying.fill_row.Goals as goal

pub returns-clause-position : goal.returns-clause-position
returns-clause-position g c q on =
    let done : c.loop-column.column ≡ c.args.last + 1 = omega (arith, c.loop-column.auto.column-end) in
    c.loop-column.invariant.position q on
    ∙ ap (λ b. cond b c.args.stone (position_of (g.B.Replayable.board_of c.args.board.now) q))
    (one_row c.args.first c.args.last c.loop-column.column c.args.row q.column q.row c.requires.corners done)
