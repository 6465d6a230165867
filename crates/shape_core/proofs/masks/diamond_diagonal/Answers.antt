use Rattle.std.proofs.Common.{refl}
use Rattle.shape_core.specs.declared.words.Kind.TheVariants as kind
use Rattle.shape_core.specs.declared.symmetries.Symmetry.TheVariants as symmetry
use Rattle.shape_core.proofs.Codes.{kind_above}
use Rattle.shape_core.proofs.Moves.{Moves, whole, masked, joined, swap}
use Rattle.shape_core.proofs.Images.{sources, made_image}
use Rattle.shape_core.proofs.masks.diamond_diagonal.Goals as goal

-- where each cell comes from
moves : Moves
moves = joined (joined (joined (joined (joined (joined (masked whole 0x400c003000c00) (swap 0x3000000000c 6)) (swap 0xc003000 10)) (swap 0x30000030 16)) (swap 0xc0000003 18)) (swap 0xc000 20)) (swap 0x300c0 26)

pub returns : goal.returns
unfolding moves sources
returns c =
    rw (c.swapped.ensures, c.swapped-2.ensures, c.swapped-3.ensures, c.swapped-4.ensures, c.swapped-5.ensures, c.swapped-6.ensures) (made_image moves kind.Diamond symmetry.FallingDiagonal c.args.word refl c.requires.high (kind_above c.args.word c.requires.low))
