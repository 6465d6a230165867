use Rattle.std.proofs.Common.{ap, cond, ◌∙◌, arith, ◌+◌, ◌≡◌}
use Rattle.go_board.specs.Board.{position_of}
use Rattle.go_record.proofs.Rectangles.{all_rows}
use Rattle.go_record.proofs.replaying.fill.Goals as goal

pub returns-clause-position : goal.returns-clause-position
returns-clause-position g c q on =
    let done : c.loop-row.row ≡ c.args.high.row + 1 = omega (arith, c.loop-row.auto.row-end) in
    c.loop-row.invariant.position q on
    ∙ ap (λ b. cond b c.args.stone (position_of (g.B.Replayable.board_of c.args.board.now) q))
    (all_rows c.args.low.column c.args.high.column c.args.low.row c.args.high.row c.loop-row.row q.column q.row done)
