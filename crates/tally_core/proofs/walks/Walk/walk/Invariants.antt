use Rattle.std.proofs.Common.{◌≡◌, ◌≤◌, drop}
use Rattle.go_board.specs.Board.{position_of}
use Rattle.tally_core.specs.Inner.Standing.{AreSides, IsFront}
use Rattle.tally_core.proofs.walks.Walk.walk.Given as goal

abbrev pub invariant-loop-action : goal.invariant-loop-action
invariant-loop-action l = record {
  size : l.game.field.board.size ≡ l.initial.game.field.board.size;
  kinds : l.game.field.kinds ≡ l.initial.game.field.kinds;
  few : l.moves ≤ l.action-index;
  black : l.game.black.occasions ≤ l.action-index;
  white : l.game.white.occasions ≤ l.action-index;
  sides : AreSides l.game;
  front : IsFront l.actions (drop l.action-index l.actions) (position_of l.initial.game.field.board) l.game l.moves;
}
