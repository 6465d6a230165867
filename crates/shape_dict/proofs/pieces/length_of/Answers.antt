use Rattle.std.proofs.Common.{arith}
use Rattle.shape_dict.proofs.Pieced.{part_long}
use Rattle.shape_dict.proofs.pieces.length_of.Goals as goal

pub overflow_add-len : goal.overflow_add-len
overflow_add-len c =
    let part = part_long c.args.pieces.now c.loop-piece.piece-index c.piece-item.result c.loop-piece-test.true c.piece-item.is in
    omega (arith, part, c.requires, c.loop-piece.invariant.counted, c.len-len.ensures)
