use Rattle.std.proofs.Common.{◌≡◌, ◌++◌, ◌-◌}
use Rattle.std.specs.List.{flat_map}
use Rattle.go_board.specs.Board.{position_of}
use Rattle.shape_core.specs.Word.{count_from}
use Rattle.engine_core.specs.Boards.{row_text}
use Rattle.engine_core.proofs.text.board_text.Given as goal

abbrev pub invariant-loop-row : goal.invariant-loop-row
invariant-loop-row l =
    l.text.items ++ flat_map (row_text l.board.size (position_of l.board)) (count_from l.row (l.row-end - l.row))
    ≡ flat_map (row_text l.board.size (position_of l.board)) (count_from 0 l.row-end)
