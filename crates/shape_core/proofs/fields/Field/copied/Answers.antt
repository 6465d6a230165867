use Rattle.std.proofs.Common.{rules, ◌≡◌, ◌∙◌, sym}
use Rattle.go_board.specs.Board.{IsBoard}
use Rattle.shape_core.specs.Inner.Keeping.{HasRoom}
use Rattle.shape_core.proofs.fields.Field.copied.Goals as goal

pub invariant_of-result : goal.invariant_of-result
invariant_of-result c =
    let before = c.self.invariant in
    let is_board : IsBoard c.in_ok-board.board = search rules in
    let size : c.in_ok-board.board.size ≡ c.self.inside.board.size = search rules in
    let stones : c.in_ok-board.board.stones ≡ c.self.inside.board.stones = search rules in
    let same : c.in_ok-kept.kept.size ≡ c.self.inside.kept.size = search rules in
    let room : HasRoom c.in_ok-kept.kept = search rules in
    let kinds : c.in_ok-kept.kept.kinds ≡ c.self.inside.kept.kinds = search rules in
    let squares : c.in_ok-kept.kept.squares.items ≡ c.self.inside.kept.squares.items = search rules in
    let diamonds : c.in_ok-kept.kept.diamonds.items ≡ c.self.inside.kept.diamonds.items = search rules in
    let empties : c.in_ok-empties.empties.rows.items ≡ c.self.inside.empties.rows.items = search rules in
    record {
      is_board = is_board;
      same_size = same ∙ before.same_size ∙ sym size;
      room = room;
      follow = rw (size, stones) (record {
        squares_follow = rw (same, squares) before.follow.squares_follow;
        diamonds_follow = rw (same, kinds, diamonds) before.follow.diamonds_follow;
      });
      are_empty = rw (size, stones, empties) before.are_empty;
    }
