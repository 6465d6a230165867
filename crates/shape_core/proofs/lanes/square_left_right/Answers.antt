use Rattle.std.proofs.Common.{refl, ap₂, [], ◌∷◌}
use Rattle.shape_core.specs.declared.words.Kind.TheVariants as kind
use Rattle.shape_core.specs.declared.symmetries.Symmetry.TheVariants as symmetry
use Rattle.shape_core.proofs.Moves.{Moves, whole, masked, joined, swap}
use Rattle.shape_core.proofs.Images.{sources, made_image}
use Rattle.shape_core.proofs.lanes.square_left_right.Goals as goal

-- where each cell comes from
moves : Moves
moves = joined (joined (masked whole 0x300c0300c030) (swap 0xc0300c0300c 4)) (swap 0x300c0300c03 8)

pub returns : goal.returns
unfolding moves sources
returns c a b lanes small_a small_b of_a of_b =
    rw (c.swapped.ensures a b lanes, c.swapped-2.ensures a b lanes, lanes)
    (ap₂ (λ x y. x ∷ y ∷ []) (made_image moves kind.Square symmetry.LeftRight a refl small_a of_a) (made_image moves kind.Square symmetry.LeftRight b refl small_b of_b))
