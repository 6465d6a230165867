use Rattle.std.proofs.Common.{refl, arith}
use Rattle.shape_core.specs.declared.words.Kind.TheVariants as kind
use Rattle.shape_core.specs.declared.symmetries.Symmetry.TheVariants as symmetry
use Rattle.shape_core.proofs.Codes.{kind_below}
use Rattle.shape_core.proofs.Moves.{Moves, whole, masked, joined, swap}
use Rattle.shape_core.proofs.Images.{sources, made_image}
use Rattle.shape_core.proofs.masks.square_diagonal.Goals as goal

-- where each cell comes from
moves : Moves
moves = joined (joined (joined (joined (masked whole 0x3003003003003) (swap 0xc00c00c00c 8)) (swap 0x30030030 16)) (swap 0xc00c0 24)) (swap 0x300 32)

pub returns : goal.returns
unfolding moves sources
returns c =
    rw (c.swapped.ensures, c.swapped-2.ensures, c.swapped-3.ensures, c.swapped-4.ensures) (made_image moves kind.Square symmetry.FallingDiagonal c.args.word refl (omega arith) (kind_below c.args.word c.requires))
