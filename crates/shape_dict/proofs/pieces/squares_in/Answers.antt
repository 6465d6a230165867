use Rattle.std.proofs.Common.{◌≡◌, ◌+◌, List, length, ap, ◌∙◌, arith}
use Rattle.shape_dict.specs.declared.entries.Entry.{Entry}
use Rattle.shape_dict.specs.Contents.{squares_of}
use Rattle.shape_dict.proofs.Pieced.{part_long, squares_few}
use Rattle.shape_dict.proofs.pieces.squares_in.Goals as goal

pub overflow_add-squares : goal.overflow_add-squares
overflow_add-squares c =
    let piece = c.piece-item.result in
    let part = part_long c.args.pieces.now c.loop-piece.piece-index piece c.loop-piece-test.true c.piece-item.is in
    let more = squares_few (Rattle.shape_dict.specs.Pieces.entries_in (Rattle.std.proofs.Common.take c.loop-piece.piece-index c.args.pieces.now)) in
    let own = squares_few piece.items in
    let all = c.count_of-squares.ensures ∙ ap (λ (es : List Entry). length (squares_of es)) c.as_slice.ensures.value in
    omega (arith, part, more, own, all, c.requires, c.loop-piece.invariant.counted)
