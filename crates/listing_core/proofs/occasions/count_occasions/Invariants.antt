use Rattle.std.proofs.Common.{◌≡◌, ◌≤◌}
use Rattle.go_board.specs.Board.{position_of}
use Rattle.listing_core.proofs.Fronts.{Completes}
use Rattle.listing_core.proofs.occasions.count_occasions.Given as goal

abbrev pub invariant-loop-action : goal.invariant-loop-action
invariant-loop-action l = record {
  size : l.board.size ≡ l.fn.board.size;
  few : l.occasions ≤ l.action-index;
  front : Completes l.fn.board.size l.actions (position_of l.fn.board) l.action-index (position_of l.board) l.occasions;
}
