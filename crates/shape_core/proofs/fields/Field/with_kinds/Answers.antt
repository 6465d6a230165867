use Rattle.std.proofs.Common.{rules, ◌≡◌, sym, subst}
use Rattle.go_board.specs.Board.{IsBoard, position_of}
use Rattle.go_board.specs.Extent.{Extent}
use Rattle.shape_core.specs.Inner.EmptyPoints.{AreEmpty}
use Rattle.shape_core.specs.Inner.Keeping.{HasRoom, Follows}
use Rattle.shape_core.proofs.fields.Field.with_kinds.Goals as goal

pub invariant_of-result : goal.invariant_of-result
invariant_of-result c =
    let board = c.in_ok-board.board in
    let kept = c.in_ok-kept.kept in
    let is_board : IsBoard board = search rules in
    let size : board.size ≡ c.args.size = search rules in
    let same : kept.size ≡ board.size = search rules in
    let room : HasRoom kept = search rules in
    let follow : Follows kept (position_of board) = search rules in
    record {
      is_board = is_board;
      same_size = same;
      room = room;
      follow = follow;
      are_empty = subst (λ (s : Extent). AreEmpty s (position_of board) c.in_ok-empties.empties.rows.items) (sym size)
          (c.in_ok-empties.ensures (position_of board) c.in_ok-board.ensures.empty);
    }
