use Rattle.std.proofs.Common.{◌≡◌, ◌<◌, ◌%◌, ◌/◌, ℕ, length, slice_index}
use Rattle.go_board.specs.Board.{position_of}
use Rattle.shape_core.specs.Around.{word_around}
use Rattle.shape_core.proofs.kept.words_of.Given as goal

abbrev pub invariant-loop-index : goal.invariant-loop-index
invariant-loop-index l =
    (length l.words.items ≡ l.index)
    × ((k : ℕ) → k < l.index → slice_index l.words.items k ≡ word_around l.kind l.board.size (position_of l.board) (record { column = k % l.board.size.columns; row = k / l.board.size.columns }))
