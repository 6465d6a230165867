use Rattle.std.proofs.Common.{◌≡◌, drop}
use Rattle.go_board.specs.Position.{Position}
use Rattle.go_board.specs.Board.{position_of}
use Rattle.go_record.specs.Replay.{Replays}
use Rattle.go_record.proofs.replaying.replay.Given as goal

-- whatever the actions that are left lead to, all of them lead to
abbrev pub invariant-loop-action : goal.invariant-loop-action
invariant-loop-action g l = record {
  size : (g.B.Replayable.board_of l.board).size ≡ (g.B.Replayable.board_of l.fn.board).size;
  stays : g.B.Replayable.Stays l.fn.board l.board;
  left : (final : Position) → Replays (g.B.Replayable.board_of l.fn.board).size (drop l.action-index l.actions) (position_of (g.B.Replayable.board_of l.board)) final
      → Replays (g.B.Replayable.board_of l.fn.board).size l.actions (position_of (g.B.Replayable.board_of l.fn.board)) final;
}
