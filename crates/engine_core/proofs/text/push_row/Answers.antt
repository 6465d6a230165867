use Rattle.std.proofs.Common.{ℕ, ◌++◌, ◌∷◌, [], ap, sym, ◌∙◌, map, ◌-◌, ◌+◌, arith}
use Rattle.go_board.specs.Board.{position_of}
use Rattle.shape_core.specs.Word.{count_from}
use Rattle.engine_core.specs.Boards.{glyph_of}
use Rattle.engine_core.proofs.Rows.{count_from-first, piece_moved}
use Rattle.engine_core.proofs.text.push_row.Goals as goal

pub loop-column-preserved : goal.loop-column-preserved
loop-column-preserved c =
    let glyph = λ (column : ℕ). glyph_of (position_of c.args.board.now (record { column = column; row = c.args.row })) in
    let e = c.columns-column-end.result in
    let k = c.loop-column.column in
    let split = count_from-first e k (omega arith) in
    piece_moved c.loop-column.text.items c.push.new.self.items (glyph k ∷ []) (map glyph (count_from (k + 1) (e - (k + 1))))
    (c.args.text.now.items ++ map glyph (count_from 0 e))
    (c.in_ok-push.ensures.items ∙ ap (λ g. c.loop-column.text.items ++ g ∷ []) (c.glyph.ensures ∙ ap glyph_of c.cell.ensures.value))
    (ap (λ columns. c.loop-column.text.items ++ map glyph columns) (sym split) ∙ c.loop-column.invariant)
