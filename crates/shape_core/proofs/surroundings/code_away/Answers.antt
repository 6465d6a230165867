use Rattle.std.proofs.Common.{ap, ◌∙◌, sym}
use Rattle.go_board.specs.Board.{position_of}
use Rattle.shape_core.specs.Around.{stone_code}
use Rattle.shape_core.proofs.Reach.{code_around_on, code_around_off}
use Rattle.shape_core.proofs.surroundings.code_away.Goals as goal

pub returns-in-Some : goal.returns-in-Some
returns-in-Some c =
    let board = c.args.board.now in
    let near = rw c.size.ensures.value at c.in-Some.ensures in
    c.code_of.ensures.value ∙ ap stone_code c.cell.ensures.value
    ∙ sym (code_around_on board.size (position_of board) c.args.point c.in-Some.near c.args.away near.0 near.1)

pub returns-in-None : goal.returns-in-None
returns-in-None c =
    let board = c.args.board.now in
    let none = rw c.size.ensures.value at c.in-None.ensures in
    sym (code_around_off board.size (position_of board) c.args.point c.args.away none)
