use Rattle.std.proofs.Common.{◌∙◌, subst, ap}
use Rattle.go_board.specs.Extent.{Extent}
use Rattle.go_board.specs.Board.{position_of}
use Rattle.go_record.specs.Replay.{empty_position}
use Rattle.go_board.specs.Position.{AreSame}
use Rattle.engine_core.specs.Boards.{position_text}
use Rattle.engine_core.proofs.Finals.{final_of}
use Rattle.engine_core.proofs.boards.final_text.Goals as goal

pub returns-clause-text : goal.returns-clause-text
returns-clause-text c =
    let game = c.args.game_record.now in
    let board = c.in_ok-board.board in
    let final = position_of c.replay.new.board in
    let empty = subst (λ (s : Extent). AreSame s (position_of board) empty_position) c.size.ensures c.in_ok-board.ensures.empty in
    let same = c.in_ok-board.ensures.size ∙ c.size.ensures in (
      final,
      final_of game board.size c.actions.result.now (position_of board) final same c.actions.ensures.value empty c.replay.ensures.replays,
      c.in_ok-board_text.ensures ∙ ap (λ s. position_text s final) (c.replay.ensures.size ∙ same),
    )
