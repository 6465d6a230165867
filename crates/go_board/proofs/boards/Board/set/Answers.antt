use Rattle.std.proofs.Common.{refl}
use Rattle.go_board.proofs.Agreement.{write_places}
use Rattle.go_board.proofs.boards.Board.set.Goals as goal

pub returns-clause-sets : goal.returns-clause-sets
returns-clause-sets c =
    rw (← c.self.view_is, c.index-index.ensures.value) (record {
      size = refl;
      removed = refl;
      position = write_places c.self.inside.size c.self.inside.stones.items c.args.point c.args.stone (rw (← c.self.view_is) at c.requires) c.self.invariant.whole;
    })
