use Rattle.std.proofs.Common.{◌≡◌, ◌+◌, ◌≤◌, drop}
use Rattle.go_board.specs.Board.{position_of}
use Rattle.hits_core.specs.declared.searches.Sought.TheVariants as sought
use Rattle.hits_core.specs.Inner.Finding.{IsFront}
use Rattle.hits_core.proofs.playing.find_played.Given as goal

abbrev pub invariant-loop-action : goal.invariant-loop-action
invariant-loop-action l = record {
  size : l.board.size ≡ l.game.recorded.size;
  few : l.number ≤ l.action-index + 1;
  front : IsFront sought.Played l.wanted l.game (position_of l.initial.board) (position_of l.board) (drop l.action-index l.actions) l.number l.fn.found l.found;
}
