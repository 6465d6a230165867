use Rattle.shape_core.proofs.Images.{image-same, image-half_turn, image-right_turn, image-left_turn, image-rising}
use Rattle.shape_core.proofs.symmetries.image.Goals as goal
use Rattle.shape_core.proofs.symmetries.image.Goals.{in-Same, in-RightTurn, in-HalfTurn, in-LeftTurn, in-LeftRight, in-TopBottom, in-FallingDiagonal, in-RisingDiagonal}

pub returns : goal.returns
returns c =
    let word = c.args.word in
    elim c.match-symmetry.branch [
      | in-Same w ↦ cc (image-same word c.bits-bits.ensures.small)
      | in-RightTurn w ↦ cc (image-right_turn word)
      | in-HalfTurn w ↦ cc (image-half_turn word)
      | in-LeftTurn w ↦ cc (image-left_turn word)
      | in-LeftRight w ↦ cc
      | in-TopBottom w ↦ cc
      | in-FallingDiagonal w ↦ cc
      | in-RisingDiagonal w ↦ cc (image-rising word)
    ]
