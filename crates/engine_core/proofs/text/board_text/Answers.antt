use Rattle.std.proofs.Common.{◌++◌, ap, sym, ◌∙◌, ◌-◌, ◌+◌, arith}
use Rattle.std.specs.List.{flat_map}
use Rattle.go_board.specs.Board.{position_of}
use Rattle.shape_core.specs.Word.{count_from}
use Rattle.engine_core.specs.Boards.{row_text}
use Rattle.engine_core.proofs.Rows.{count_from-first, piece_moved}
use Rattle.engine_core.proofs.text.board_text.Goals as goal

pub loop-row-preserved : goal.loop-row-preserved
loop-row-preserved c =
    let text = row_text c.args.board.now.size (position_of c.args.board.now) in
    let e = c.rows-row-end.result in
    let k = c.loop-row.row in
    let split = count_from-first e k (omega arith) in
    piece_moved c.loop-row.text.items c.push_row.new.text.items (text k) (flat_map text (count_from (k + 1) (e - (k + 1))))
    (flat_map text (count_from 0 e)) c.in_ok-push_row.ensures
    (ap (λ rows. c.loop-row.text.items ++ flat_map text rows) (sym split) ∙ c.loop-row.invariant)
