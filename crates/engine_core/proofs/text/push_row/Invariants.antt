use Rattle.std.proofs.Common.{◌≡◌, ◌++◌, ◌-◌, map}
use Rattle.go_board.specs.Board.{position_of}
use Rattle.shape_core.specs.Word.{count_from}
use Rattle.engine_core.specs.Boards.{glyph_of}
use Rattle.engine_core.proofs.text.push_row.Given as goal

abbrev pub invariant-loop-column : goal.invariant-loop-column
invariant-loop-column l =
    l.text.items ++ map (λ column. glyph_of (position_of l.board (record { column = column; row = l.row }))) (count_from l.column (l.column-end - l.column))
    ≡ l.fn.text.items ++ map (λ column. glyph_of (position_of l.board (record { column = column; row = l.row }))) (count_from 0 l.column-end)
