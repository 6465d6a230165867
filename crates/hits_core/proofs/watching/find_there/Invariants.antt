use Rattle.std.proofs.Common.{◌≡◌, ◌+◌, ◌≤◌, drop}
use Rattle.go_board.specs.Board.{position_of}
use Rattle.hits_core.specs.declared.searches.Sought.TheVariants as sought
use Rattle.hits_core.specs.Inner.Finding.{IsFront}
use Rattle.hits_core.specs.Inner.Watching.{IsWatched}
use Rattle.hits_core.proofs.watching.find_there.Given as goal

abbrev pub invariant-loop-action : goal.invariant-loop-action
invariant-loop-action l = record {
  size : l.watch.field.board.size ≡ l.game.recorded.size;
  watched : IsWatched l.wanted l.watch;
  few : l.number ≤ l.action-index + 1;
  front : IsFront sought.There l.wanted l.game (position_of l.initial.watch.field.board) (position_of l.watch.field.board) (drop l.action-index l.actions) l.number l.fn.found l.found;
}
